pub mod Holds
pub mod Overwritten
pub mod Units
pub mod View
