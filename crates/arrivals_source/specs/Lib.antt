pub mod Chosen
pub mod Counted
pub mod Reading
pub mod Seen
pub mod Telling
pub mod Through
pub mod Ways
