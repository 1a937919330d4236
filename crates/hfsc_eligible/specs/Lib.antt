pub mod Real
pub mod Slot
pub mod Heads
pub mod Eligible
