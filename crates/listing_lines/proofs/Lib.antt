mod Examples
pub mod FieldTexts
pub mod KeywordTexts
pub mod LineTexts
pub mod Numerals
pub mod OneText
pub mod OneWay
pub mod Steps
pub mod Taken
