pub mod Cells
pub mod Values
pub mod Strands
