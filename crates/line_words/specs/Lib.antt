pub mod Line
pub mod Words
pub mod Number
pub mod PrintedWords
