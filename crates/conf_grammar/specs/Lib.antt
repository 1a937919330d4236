pub mod Bounds
pub mod Laws
pub mod Options
pub mod Phrases
pub mod Rows
pub mod Spells
pub mod Words
