pub use Rattle.pass_parts.specs.of_fuse_contract as of_fuse_contract
pub use Rattle.pass_parts.specs.of_pass_sizes as of_pass_sizes
