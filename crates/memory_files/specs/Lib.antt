pub mod Memory
pub mod Planned
pub mod Steady
pub mod Telling
