pub mod Buckets
pub mod Conforming
pub mod Green
pub mod Red
