pub mod Moves
pub mod Once
pub mod States
pub mod Transfers
pub mod Runs
