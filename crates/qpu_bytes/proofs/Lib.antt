pub mod Shapes
pub mod ByteLemmas
pub mod FootLemmas
pub mod RunLemmas
