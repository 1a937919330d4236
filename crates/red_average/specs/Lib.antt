pub mod Average
pub mod Ruling
pub mod Red
pub mod Exact
