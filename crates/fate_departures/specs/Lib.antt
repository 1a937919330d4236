pub mod Departures
pub mod Frames
