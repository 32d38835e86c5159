pub mod Replay
pub mod Widened
pub mod Widening
