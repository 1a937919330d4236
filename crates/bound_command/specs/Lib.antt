pub mod Bounding
pub mod Lines
