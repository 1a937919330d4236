pub mod Departing
pub mod OneDeparture
pub mod Passing
pub mod Timing
pub mod Turns
