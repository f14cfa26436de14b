pub mod Key
pub mod Sym
