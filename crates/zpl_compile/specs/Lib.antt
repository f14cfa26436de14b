pub mod Compilable
pub mod Compile
pub use Rattle.fuse_contract.specs as of_fuse_contract
pub use Rattle.plan_meaning.specs as of_plan_meaning
