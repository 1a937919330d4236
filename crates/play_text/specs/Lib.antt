pub mod Named
pub mod Names
pub mod Ready
pub mod Rows
pub mod Statistics
pub mod Summary
pub mod Texts
