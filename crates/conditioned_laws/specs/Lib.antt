pub mod Metered
pub mod Conforming
pub mod Rows
