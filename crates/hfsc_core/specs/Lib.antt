pub mod Chooser
pub mod Hfsc
pub mod Waiting
