pub mod Linked
pub mod Lists
pub mod Pool
pub mod Queue
pub mod Words
