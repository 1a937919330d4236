pub mod Grammar
pub mod Kinds
pub mod Laws
pub mod Options
pub mod Parts
pub mod Slots
pub mod Texts
