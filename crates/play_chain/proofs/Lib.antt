pub mod FirstLemmas
pub mod KeptLemmas
pub mod ListLemmas
pub mod PathLemmas
pub mod SecondLemmas
pub mod TextLemmas
pub mod ThroughLemmas
