pub mod Frames
pub mod Handlings
pub mod Laws
pub mod Rows
