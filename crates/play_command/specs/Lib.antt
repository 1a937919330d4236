pub mod Ending
pub mod Headline
pub use Rattle.command_form.specs.Names
