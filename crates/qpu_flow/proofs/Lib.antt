pub mod CodeLemmas
pub mod OutsideLemmas
pub mod FollowLemmas
pub mod OneFollow
