pub use Rattle.node_turn.specs.Turned
pub use Rattle.node_turn.specs.declared.steps.StuckKind
pub mod Counting
pub mod Inside
pub mod Marks
pub mod Processors
pub mod Restored
pub mod Run
pub mod Simulation
pub mod Stop
pub mod Telling
pub use Rattle.node_turn.specs.of_row_turn as of_row_turn
