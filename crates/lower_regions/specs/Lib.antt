pub mod Opened
pub mod Prefix
pub mod Forms
pub use Rattle.lower_places.specs.of_lower_draft as of_lower_draft
pub use Rattle.lower_places.specs as of_lower_places
pub use Rattle.lower_places.specs.of_zpl_lowering as of_zpl_lowering
