pub mod Leaf
pub mod Rows
