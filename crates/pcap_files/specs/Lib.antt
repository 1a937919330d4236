pub mod Ahead
pub mod Faults
pub mod Forms
pub mod Reading
pub mod Stand
