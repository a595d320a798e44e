pub mod Again
pub mod Made
