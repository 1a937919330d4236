pub mod Counting
pub mod Fit
