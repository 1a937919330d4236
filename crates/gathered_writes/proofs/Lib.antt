pub mod GatherLemmas
pub mod GatheredLaws
