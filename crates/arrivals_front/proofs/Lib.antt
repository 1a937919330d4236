pub mod GivenLemmas
pub mod ReadLaws
mod TakingLemmas
