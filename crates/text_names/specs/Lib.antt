pub mod Declares
pub mod Found
pub mod Heads
pub mod Stops
pub mod Text
pub use Rattle.text_walk.specs as of_text_walk
