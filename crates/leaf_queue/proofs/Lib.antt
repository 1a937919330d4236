pub mod Linking
pub mod Changing
pub mod Rows
