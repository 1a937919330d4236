pub mod PlayedLaws
pub mod StayLaws
