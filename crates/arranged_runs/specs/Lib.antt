pub mod Plannable
pub mod Sent
