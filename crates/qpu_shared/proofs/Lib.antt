pub mod LocalLemmas
pub mod SharedLemmas
pub mod WordLemmas
pub mod PendingLemmas
pub mod ExecLemmas
pub mod MoveLemmas
pub mod MeaningLaw
pub mod LocalFaults
