pub mod Curves
pub mod Classes
pub mod Lists
pub mod NeverLimited
pub mod Late
pub mod Node
pub mod Group
