pub mod OptionLemmas
pub mod TextLemmas
