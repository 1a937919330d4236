pub mod Plain
pub mod Queues
