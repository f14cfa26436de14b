pub use Rattle.lowered_flat.specs as of_lowered_flat
pub use Rattle.lowering_loops.specs.of_pass_promises as of_pass_promises
