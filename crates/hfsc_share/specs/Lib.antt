pub mod Walk
pub mod Shares
