pub mod Three
pub use Rattle.fuse_contract.specs as of_fuse_contract
