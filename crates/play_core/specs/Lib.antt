pub mod Ended
pub mod Finished
pub mod Going
pub mod Steps
pub mod Totals
pub mod Turns
