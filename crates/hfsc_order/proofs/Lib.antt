pub mod Leasts
pub mod Picks
pub mod Times
pub mod Policies
