pub mod Soonest
mod Bounds
