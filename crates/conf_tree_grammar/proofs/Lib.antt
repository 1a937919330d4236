pub mod Accepts
pub mod Goes
pub mod Lookups
pub mod OptionsSet
pub mod Told
pub mod Whole
