pub mod Opening
pub mod Deadline
pub mod Held
pub mod Lines
pub mod Running
