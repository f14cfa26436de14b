-- The words of each tree are read as one of the same shape, or are too deep.
pub mod Base
pub mod Levels
pub mod Opens
pub mod Parts
pub mod Expressions
pub mod Here
pub mod Statements
pub mod Declarations
pub mod Programs
