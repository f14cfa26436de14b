pub mod InFew
