pub mod Came
pub mod End
pub mod Parts
pub mod Plan
pub mod Rows
