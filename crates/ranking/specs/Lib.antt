pub mod Order
pub mod Search
pub mod Keys
pub mod Ranking
