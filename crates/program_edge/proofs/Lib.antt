pub mod Drivers
pub mod Lacking
pub mod Noting
pub mod Passed
pub mod Passing
pub mod Stories
mod LimitMistakes
