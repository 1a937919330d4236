pub mod MetersFit
pub mod Positions
pub mod PrintedLines
pub mod StandingFaults
