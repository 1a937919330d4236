pub mod Fronts
pub mod Lookup
pub mod Standing
