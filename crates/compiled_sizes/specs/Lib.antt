pub mod Lowered
pub use Rattle.zpl_compile.specs.of_fuse_contract as of_fuse_contract
pub use Rattle.lowering_checks.specs as of_lowering_checks
pub use Rattle.lowering_sizes.specs as of_lowering_sizes
pub use Rattle.lowering_checks.specs.of_pass_parts as of_pass_parts
pub use Rattle.lowering_checks.specs.of_pass_sizes as of_pass_sizes
pub use Rattle.zpl_compile.specs as of_zpl_compile
