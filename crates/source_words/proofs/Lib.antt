mod FirstWord
pub mod LineWords
pub mod Characters
pub mod ValueWords
mod Depths
mod Codes
mod Passing
mod Writing
mod Parts
mod Trees
pub mod Says
pub mod PrintedWords
mod RegisterLists
mod Said
mod Faults
mod Whole
mod WordSources
pub mod PrintedValues
pub mod PrintedOperands
pub mod PrintedActions
