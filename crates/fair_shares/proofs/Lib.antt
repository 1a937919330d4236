pub mod Moves
pub mod Lines
pub mod Means
pub mod Events
pub mod Chosen
pub mod Spread
pub mod Stretches
