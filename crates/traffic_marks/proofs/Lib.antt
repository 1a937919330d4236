pub mod Steps
pub mod Lengths
pub mod Reading
pub mod Stays
