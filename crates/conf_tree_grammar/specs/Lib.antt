pub mod Grammar
pub mod Laws
pub mod Options
pub mod Rows
pub mod Sayings
