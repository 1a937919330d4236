pub mod Ending
pub mod Made
pub use Rattle.command_form.specs.Names
