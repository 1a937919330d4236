pub mod Steps
pub mod Gaps
pub mod Bounds
pub mod AllRows
pub mod ClassLemmas
