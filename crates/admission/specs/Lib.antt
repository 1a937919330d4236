pub mod Fit
pub mod Answer
pub mod Bends
