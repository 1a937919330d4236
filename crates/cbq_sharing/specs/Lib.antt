pub mod Fresh
pub mod Held
pub mod Lent
pub mod Rings
pub mod Sent
pub mod Shared
pub mod Waiting
