pub use Rattle.array_statements.specs.declared.faults.MeanFault
pub mod Means
pub mod Opened
pub use Rattle.rank_types.specs as of_rank_types
