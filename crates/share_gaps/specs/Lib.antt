pub mod Greatest
pub mod Leads
pub mod Rows
pub mod Serve
pub mod Within
pub mod Bounds
pub mod Watching
