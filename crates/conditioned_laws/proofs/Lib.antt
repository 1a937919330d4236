pub mod Order
pub mod Carried
pub mod Captures
