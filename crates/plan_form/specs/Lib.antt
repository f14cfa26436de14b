pub mod Draft
pub mod Goals
pub mod Items
pub mod Plan
pub mod Rewrite
pub mod Units
pub use Rattle.flat_passes.specs.of_code_parts as of_code_parts
pub use Rattle.flat_passes.specs as of_flat_passes
pub use Rattle.flat_passes.specs.of_node_form as of_node_form
pub use Rattle.flat_passes.specs.of_row_runs as of_row_runs
