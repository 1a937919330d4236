pub mod Left
pub mod Rows
