pub mod Block
pub mod Interface
pub mod Number
pub mod Numbers
pub mod Reading
pub mod Rows
