pub mod Uniform
pub mod Goes
pub mod Undecided
