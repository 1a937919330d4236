pub mod Ending
pub mod Lines
pub mod Measured
pub mod Measuring
pub use Rattle.command_form.specs.Names
