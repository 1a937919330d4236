pub mod Growth
pub mod Conforming
pub mod Kept
pub mod Bounds
