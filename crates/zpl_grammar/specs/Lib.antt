pub mod Written
pub mod Writable
pub mod Same
pub mod Lexeme
pub mod Offsets
pub mod Texts
pub use Rattle.zpl_tree.specs as of_zpl_tree
