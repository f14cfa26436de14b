-- Whatever a rule makes is a tree of the grammar, and what it took are the words of the tree.
pub mod Base
pub mod Tokens
pub mod Classes
pub mod Expressions
pub mod Statements
pub mod Declarations
pub mod Programs
