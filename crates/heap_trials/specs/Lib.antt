pub mod Scene
pub mod Volumes
