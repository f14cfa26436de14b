-- With the offsets of its lexemes a tree is the only one of its shape.
pub mod Expressions
pub mod Statements
pub mod Declarations
