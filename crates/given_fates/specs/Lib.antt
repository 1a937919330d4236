pub mod Fates
