pub mod Fault
pub mod Front
pub mod Given
pub mod Parse
pub mod RowFields
pub mod Rows
pub mod Text
