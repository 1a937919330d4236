pub mod Capture
pub mod Header
pub mod Numbers
pub mod Rows
pub mod Written
