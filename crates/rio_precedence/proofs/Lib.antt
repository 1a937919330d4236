pub mod Standing
pub mod Nearness
pub mod Rulings
pub mod Counting
pub mod Rules
