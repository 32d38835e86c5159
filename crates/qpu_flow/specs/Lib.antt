pub mod Code
pub mod Control
pub mod Faults
pub mod Follow
pub mod Steps
