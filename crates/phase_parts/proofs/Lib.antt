pub mod Blocks
pub mod Fitting
mod Grammar
mod Room
pub mod Same
mod Written
mod VolumeParts
mod ListFacts
mod VolumeRoom
mod Families
mod Newcomers
mod Ppis
mod PeekedBytes
mod Topmost
pub mod Got
mod FoundActions
