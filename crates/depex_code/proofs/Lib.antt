pub mod Instructions
pub mod Machine
pub mod OneReading
pub mod Outcomes
pub mod Stacks
pub mod TreeWalk
pub mod Walk
mod SomeReading
