pub mod PlainBody
pub mod PlainState
pub mod Nodes
pub mod Words
pub mod Moves
pub mod Peeking
pub mod Behind
