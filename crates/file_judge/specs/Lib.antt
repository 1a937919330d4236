pub mod Given
pub mod Journal
pub mod Verdict
