pub mod Precedence
pub mod Rio
pub mod Any
pub mod Rows
pub mod Exactly
pub mod Sequence
pub mod SequenceRows
