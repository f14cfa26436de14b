pub mod Tables
pub mod Shapes
pub mod Uses
pub mod Flows
