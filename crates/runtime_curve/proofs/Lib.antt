pub mod Reaching
pub mod Deadlines
pub mod TwoLines
pub mod Lowest
pub mod Early
pub mod Answered
pub mod Kept
