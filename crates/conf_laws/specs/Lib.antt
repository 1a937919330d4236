pub mod Fit
pub mod Laws
pub mod Rows
pub mod Statements
