pub mod Ends
pub mod Form
pub mod Given
pub mod Laws
pub mod Names
pub mod Plans
