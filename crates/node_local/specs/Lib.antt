pub mod Computing
pub mod Inside
pub mod Reading
pub mod Standing
pub mod Store
pub mod Undo
pub mod Workplace
