-- A rule gives the same with each bound on its lists that is greater than the number of lexemes.
pub mod Base
pub mod Expressions
pub mod Statements
pub mod Declarations
