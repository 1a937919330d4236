pub mod Had
pub mod Meets
pub mod Reading
pub mod Says
