mod EachStatement
mod GoodSteps
pub mod GrammarPlaces
pub mod LineSplit
pub mod Names
pub mod OneLine
mod ReadWords
pub mod Readings
