pub mod Views
pub mod Steps
pub mod Quiet
pub mod Plain
