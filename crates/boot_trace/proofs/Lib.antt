mod EntryPlaces
pub mod FixedWords
mod HobBounds
mod HeapPieces
mod HeapReads
mod Hexadecimal
mod HobPlaces
pub mod Lines
mod ListPlaces
mod PieceTexts
mod PutLines
mod SpanLines
mod StartLines
mod StoreTexts
