pub mod PieceLemmas
pub mod PlaceLemmas
pub mod ReaderLemmas
pub mod ReadingLaws
pub mod WordLemmas
pub mod WritingLemmas
pub mod PrefixLemmas
