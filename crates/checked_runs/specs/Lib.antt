pub mod Stops
pub use Rattle.checked_messages.specs.of_checked_rows as of_checked_rows
