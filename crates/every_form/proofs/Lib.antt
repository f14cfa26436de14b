pub mod ExprLemmas
pub mod ShatteredLemmas
pub mod FormLemmas
pub mod CallLemmas
mod Examples
