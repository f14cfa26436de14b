pub mod Walked
pub mod Prepared
pub mod Totals
pub mod Stands
pub mod Reads
pub use Rattle.pass_parts.specs as of_pass_parts
pub use Rattle.pass_parts.specs.of_pass_sizes as of_pass_sizes
