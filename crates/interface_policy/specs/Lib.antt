pub mod Classes
pub mod Policy
pub mod Promises
pub mod Laws
pub mod Sole
