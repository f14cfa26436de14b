pub mod Bordered
