mod Rows
pub mod Turned
pub mod Fairness
pub mod InOrder
pub mod Orderly
pub mod Standing
pub mod Searching
pub mod Starting
pub mod Turning
pub mod Runs
pub mod EventLines
pub mod Readings
pub mod Putting
pub mod RecordLines
pub mod ReplyLines
pub mod Answered
