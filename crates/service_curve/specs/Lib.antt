pub mod Curve
pub mod Inverse
pub mod Moment
