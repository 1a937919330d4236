pub mod Sharing
pub mod Fairness
