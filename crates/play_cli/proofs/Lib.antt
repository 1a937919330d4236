pub mod NameLaws
pub mod OwnLaws
pub mod RunLaws
