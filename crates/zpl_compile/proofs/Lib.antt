mod ExamplesPlan
mod ExamplesRuns
pub use Rattle.fuse_contract.proofs as of_fuse_contract
