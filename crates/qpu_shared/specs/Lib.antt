pub mod SharedState
pub mod Instruction
pub mod Moves
pub mod Views
pub mod Exec
pub mod Free
pub mod Local
