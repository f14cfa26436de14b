pub mod Path
pub mod Scene
pub mod Tree
pub mod Laws
