pub mod Causes
pub mod Kinds
pub mod Options
pub mod Read
pub mod Words
