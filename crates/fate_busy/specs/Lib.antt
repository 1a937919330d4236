pub mod Busy
