pub mod AnswerLaws
pub mod CheckLaws
