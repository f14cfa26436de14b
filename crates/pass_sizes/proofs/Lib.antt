pub mod SumLemmas
pub mod UnitLemmas
pub mod CombineLemmas
pub mod NeedLemmas
pub mod FlatLemmas
pub mod NormalLemmas
pub mod SettledLemmas
pub mod TestLemmas
pub mod FactorLemmas
pub use Rattle.fuse_contract.proofs.of_bound_check as of_bound_check
pub use Rattle.comm_combine.proofs as of_comm_combine
pub use Rattle.comm_early.proofs as of_comm_early
pub use Rattle.comm_needs.proofs as of_comm_needs
pub use Rattle.fuse_contract.proofs as of_fuse_contract
pub use Rattle.comm_needs.proofs.of_plan_form as of_plan_form
pub use Rattle.fuse_contract.proofs.of_temp_norm as of_temp_norm
