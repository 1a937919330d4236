pub mod ArrivalLemmas
pub mod EndLemmas
pub mod FileLemmas
pub mod OneLemmas
pub mod PassLemmas
