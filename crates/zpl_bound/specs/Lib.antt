pub mod Accepted
pub mod Faults
pub use Rattle.rank_types.specs as of_rank_types
