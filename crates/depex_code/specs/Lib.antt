pub mod Depth
pub mod Expression
pub mod Instruction
pub mod Reading
pub mod Tree
pub mod TreeCode
