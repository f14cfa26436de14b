pub mod Local
pub mod Read
