pub mod Inside
pub mod Laws
pub mod Links
pub mod Machine
pub mod Network
pub mod Run
pub use Rattle.zpl_lists.specs as of_zpl_lists
