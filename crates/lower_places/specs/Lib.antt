pub mod Numbers
pub mod View
pub mod Sound
pub mod RegionSlots
pub mod Lines
pub use Rattle.lower_draft.specs as of_lower_draft
pub use Rattle.lower_draft.specs.of_zpl_lowering as of_zpl_lowering
