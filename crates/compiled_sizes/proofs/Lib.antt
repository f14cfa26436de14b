pub mod BaseLemmas
pub mod PassLemmas
pub mod LayoutLemmas
pub mod CheckLemmas
pub mod PreparedLemmas
pub mod ThemselvesLemmas
pub use Rattle.zpl_compile.proofs.of_fuse_contract as of_fuse_contract
pub use Rattle.lowering_checks.proofs as of_lowering_checks
pub use Rattle.lowering_sizes.proofs as of_lowering_sizes
pub use Rattle.lowering_checks.proofs.of_pass_parts as of_pass_parts
pub use Rattle.lowering_checks.proofs.of_pass_sizes as of_pass_sizes
