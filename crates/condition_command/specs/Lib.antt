pub mod Conditioning
pub mod Marking
pub mod Moving
pub mod Starting
