pub mod OutcomeLemmas
pub mod StandLemmas
