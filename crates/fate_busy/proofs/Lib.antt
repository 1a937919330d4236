pub mod Dropping
pub mod Leaving
