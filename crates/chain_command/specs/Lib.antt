pub mod Chained
pub mod Chaining
pub mod Names
pub mod Writing
