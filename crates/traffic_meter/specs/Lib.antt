pub mod Buckets
pub mod Conforming
pub mod History
pub mod Mark
pub mod Rows
