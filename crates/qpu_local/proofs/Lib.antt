pub mod UnitLemmas
pub mod StayLemmas
pub mod StoreLemmas
pub mod WholeLemmas
pub mod PlainLemmas
