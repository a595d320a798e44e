-- The services of a driver's calls.
pub mod Served
