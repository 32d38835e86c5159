pub mod AnswerLemmas
pub mod LeftLemmas
pub mod RowLemmas
pub mod RunLemmas
pub mod WidenLemmas
