-- How the code reads a line: its own steps, one definition for each function, for the clauses of private
-- functions. What a line says is told by the grammar (Spells), which cites none of this, and that both agree
-- is a law. Of a line that says nothing, the fault is told by these steps alone. This project's own.
pub mod Reading
pub mod Pieces
pub mod Parts
pub mod Orders
pub mod PartsRead
pub mod Sections
pub mod Marks
pub mod Judging
pub mod Meanings
pub mod LinesRead
