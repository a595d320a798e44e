pub mod Chosen
pub mod ChosenWays
pub mod FirstStarts
pub mod FirstRuns
mod Followed
mod Following
pub mod Growing
pub mod Idle
pub mod Openings
mod PassLists
mod Passing
mod Requests
pub mod Runs
pub mod Standing
pub mod Targets
mod Told
mod Turning
mod WaitingLines
mod Companions
mod Eligible
mod Filling
mod Machines
mod Scheduling
mod WaitingDrivers
mod Walks
mod Watching
