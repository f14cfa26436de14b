pub mod RowLemmas
pub mod FirstLemmas
pub mod AssignLemmas
pub mod BorderLemmas
pub mod ValueLemmas
pub mod PrefixLemmas
pub mod WriteLemmas
pub mod ItemLemmas
pub use Rattle.lower_points.proofs.of_array_regions as of_array_regions
