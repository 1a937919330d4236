pub mod Least
pub mod LinkEnds
pub mod Rises
pub mod Starting
pub mod Times
pub mod Now
