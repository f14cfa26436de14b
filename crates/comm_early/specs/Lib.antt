pub mod Place
pub mod Send
pub mod Written
