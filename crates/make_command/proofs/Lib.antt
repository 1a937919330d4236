pub mod ArrivalsLemmas
pub mod MadeLemmas
pub mod MakeLemmas
