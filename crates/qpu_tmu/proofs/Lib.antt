pub mod LookLemmas
pub mod FetchLaw
