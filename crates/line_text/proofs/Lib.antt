pub mod Passing
pub mod Splitting
pub mod Digits
pub mod Colons
