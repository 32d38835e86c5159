pub mod AwayLemmas
pub mod RunLemmas
pub mod SentLemmas
