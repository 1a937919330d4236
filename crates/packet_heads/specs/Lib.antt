pub mod Flow
pub mod Heads
pub mod Points
pub mod Retagged
pub mod Departing
pub mod Laws
pub mod Rows
