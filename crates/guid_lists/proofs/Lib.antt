pub mod Holding
pub mod Passing
pub mod Placing
pub mod Rising
