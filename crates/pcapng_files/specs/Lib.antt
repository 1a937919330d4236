pub mod Converted
pub mod Converting
pub mod Fronts
pub mod Telling
pub mod Views
