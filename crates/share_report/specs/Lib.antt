pub mod Classes
pub mod Report
pub mod Watched
