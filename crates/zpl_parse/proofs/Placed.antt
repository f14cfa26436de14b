-- The offsets in what a rule makes are those of the lexemes.
pub mod Base
pub mod Expressions
pub mod Statements
pub mod Declarations
