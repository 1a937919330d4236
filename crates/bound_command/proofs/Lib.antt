pub mod BoundLaws
mod LineLemmas
