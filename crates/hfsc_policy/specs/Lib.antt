pub mod Events
pub mod Classes
pub mod Policy
pub mod Heads
