pub mod Due
pub mod Gained
pub mod Kept
pub mod Looked
pub mod Stands
