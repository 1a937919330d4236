pub mod Keeping
pub mod Path
pub mod Rows
pub mod Stands
pub mod Tables
pub mod Text
pub mod Written
