pub mod Alike
pub mod CountedLaws
pub mod ReadLemmas
pub mod SourceLaws
