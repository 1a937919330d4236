pub mod HeldLemmas
pub mod RecordLemmas
