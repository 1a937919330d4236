pub mod Events
pub mod Heads
pub mod Runs
pub mod Sizes
