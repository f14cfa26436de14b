pub mod Fold
pub mod Integer
pub mod Op
pub mod UnaryOp
