pub mod Marking
pub mod Meters
pub mod Unmarked
