pub mod Faults
pub mod Gathered
pub mod Input
pub mod Output
pub mod Stores
pub mod Text
