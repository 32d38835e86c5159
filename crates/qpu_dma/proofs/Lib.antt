pub mod CarriedLemmas
pub mod FitLemmas
pub mod OnceLemmas
pub mod RunLemmas
pub mod RangeLemmas
pub mod SetupLemmas
pub mod SpotLemmas
