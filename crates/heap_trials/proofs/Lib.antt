pub mod Boards
pub mod NewPools
pub mod Stays
