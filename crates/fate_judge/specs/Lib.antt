pub mod All
pub mod Ends
pub mod Given
pub mod Judged
pub mod Order
pub mod Reading
pub mod Tests
pub mod Walk
