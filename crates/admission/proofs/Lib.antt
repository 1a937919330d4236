pub mod Breakpoints
pub mod Between
pub mod Excess
