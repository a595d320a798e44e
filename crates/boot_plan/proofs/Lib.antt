pub mod FormLemmas
pub mod Drafts
pub mod Names
pub mod Adding
pub mod Finishing
pub mod Reading
pub mod OneReading
mod SomeReading
