pub mod Contracted
pub mod Counts
pub mod Early
pub mod Exchanged
pub mod Fused
pub mod Needs
pub mod Stretch
pub mod Uses
pub use Rattle.node_form.specs.of_zpl_arrays as of_zpl_arrays
pub use Rattle.node_form.specs.of_zpl_nums as of_zpl_nums
pub use Rattle.node_form.specs.of_zpl_region as of_zpl_region
