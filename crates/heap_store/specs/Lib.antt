-- In the order in which to read them.
pub mod HeapState
pub mod NewDescriptor
pub mod Volumes
pub mod Made
-- The move.
pub mod Due
pub mod Relocated
pub mod Course
pub mod Ready
pub mod Linked
pub mod WordBytes
pub mod Half
pub mod Copied
pub mod Pages
