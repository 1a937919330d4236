pub mod AlongLaws
pub mod CameLaws
pub mod EndLaws
pub mod FewLaws
pub mod RowLaws
