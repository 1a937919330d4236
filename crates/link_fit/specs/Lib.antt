pub mod Curves
pub mod Lines
