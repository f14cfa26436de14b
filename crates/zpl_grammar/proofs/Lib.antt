mod Examples
pub mod Faults
pub mod OneWords
pub mod ReadBack
pub mod Respelled
pub mod TextWords
pub mod WordCuts
pub mod WordLemmas
