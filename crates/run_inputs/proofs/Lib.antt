mod BeginLemmas
mod HadLemmas
pub mod OneThing
mod OpenLemmas
mod TextLemmas
