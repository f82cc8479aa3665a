pub mod Numerals
pub mod Readings
pub mod DayText
pub mod FlagWords
pub mod JoinedForms
pub mod CheckLemmas
pub mod Appending
