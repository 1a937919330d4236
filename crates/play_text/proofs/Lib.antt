pub mod DigitLemmas
pub mod NameLemmas
pub mod RowLemmas
pub mod StatsLemmas
pub mod TextLemmas
