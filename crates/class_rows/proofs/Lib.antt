pub mod FrontLemmas
pub mod LeafLemmas
pub mod RowHistory
pub mod RowLemmas
pub mod ShowsLemmas
