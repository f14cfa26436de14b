-- What a rule makes rests on the lexemes that it took and on the first one that it left.
pub mod Base
pub mod Tokens
pub mod Expressions
pub mod Statements
pub mod Declarations
