pub mod Capped
pub mod Choice
pub mod Rounds
pub mod Rows
pub mod Tree
pub mod First
pub mod Ways
pub mod WayRows
