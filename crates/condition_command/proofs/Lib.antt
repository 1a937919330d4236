pub mod EndLemmas
pub mod InputLemmas
pub mod MovingLemmas
pub mod RunLaws
