pub mod EntryLines
pub mod FixedWords
pub mod HeapParts
pub mod HobLines
pub mod Pieces
pub mod Printing
pub mod StartLines
