mod RunLemmas
mod PieceLemmas
pub mod PieceLaw
pub mod PlaceLemmas
pub mod ReadLemmas
pub mod SpanLaw
mod CutLaw
pub mod AnswerLaw
mod WrittenLemmas
mod WrittenSteps
pub mod WrittenLaw
