pub mod PacedLemmas
pub mod StrictLemmas
