pub mod Ends
pub mod Holding
