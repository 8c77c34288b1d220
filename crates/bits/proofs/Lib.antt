pub mod Integers
pub mod SignedWords
pub mod Words
pub mod Digits
pub mod Table
pub mod FlagLaws
