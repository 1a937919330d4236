pub mod Average
pub mod Capped
pub mod Estimate
pub mod Now
pub mod Starts
pub mod Rows
