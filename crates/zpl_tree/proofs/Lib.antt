pub mod Depths
mod Examples
pub mod Grammars
pub mod Spellings
pub mod Views
