pub mod LineLemmas
pub mod SharesLemmas
