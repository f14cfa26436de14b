pub mod Sound
pub mod View
pub use Rattle.array_store.specs.of_zpl_meaning as of_zpl_meaning
