pub mod Laws
pub mod Moments
pub mod View
