pub mod Leaders
pub mod Slots
pub mod Lists
pub mod Picks
pub mod Same
pub mod News
