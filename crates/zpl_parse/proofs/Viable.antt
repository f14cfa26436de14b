-- What was taken before a fault begins some text of the grammar.
pub mod PlainWords
pub mod Base
pub mod Expressions
pub mod Statements
pub mod Declarations
