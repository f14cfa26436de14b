pub use Rattle.zpl_compile.specs.of_fuse_contract as of_fuse_contract
pub use Rattle.fused_runs.specs as of_fused_runs
pub use Rattle.zpl_compile.specs as of_zpl_compile
