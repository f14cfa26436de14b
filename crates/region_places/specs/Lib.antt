pub mod Walk
pub use Rattle.zpl_arrays.specs as of_zpl_arrays
pub use Rattle.zpl_arrays.specs.of_zpl_nums as of_zpl_nums
pub use Rattle.zpl_arrays.specs.of_zpl_region as of_zpl_region
