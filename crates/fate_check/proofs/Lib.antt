pub mod CutLemmas
pub mod FieldLemmas
pub mod FrontLemmas
pub mod NameLemmas
pub mod NumberLemmas
pub mod OneLemmas
pub mod RowLemmas
pub mod WordLemmas
