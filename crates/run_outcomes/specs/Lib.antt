pub mod Faults
pub mod Message
pub mod Outcome
pub mod Reported
pub mod Truth
