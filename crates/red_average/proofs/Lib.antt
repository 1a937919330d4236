pub mod Idle
pub mod Near
pub mod Counting
pub mod Steps
