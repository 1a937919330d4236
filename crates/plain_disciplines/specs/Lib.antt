pub mod Paced
pub mod Plain
pub mod Strict
