pub mod Printer
pub mod Shown
