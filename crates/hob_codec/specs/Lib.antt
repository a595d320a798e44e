pub mod HobValue
pub mod HobView
pub mod HobBytes
pub mod HobReading
pub mod HobList
pub mod FieldView
