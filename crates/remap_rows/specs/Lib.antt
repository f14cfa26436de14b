pub mod Remap
