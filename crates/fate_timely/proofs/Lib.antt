pub mod Leaves
pub mod Listing
pub mod Telling
