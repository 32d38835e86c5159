pub mod Handing
pub mod Inputs
pub mod Outputs
pub mod Waits
