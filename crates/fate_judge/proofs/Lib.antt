pub mod Aboves
pub mod AllPassed
pub mod Counted
pub mod Lookup
pub mod OneWay
pub mod Passing
pub mod Walking
