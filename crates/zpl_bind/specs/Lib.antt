pub mod Bound
pub mod Fault
pub mod Lists
pub mod Tables
pub mod Known
pub mod Few
pub mod Forms
pub mod Texts
pub mod Storages
pub mod Once
pub use Rattle.zpl_parts.specs.of_zpl_binding as of_zpl_binding
