pub mod Counting
pub mod StoreMoved
pub mod EffectForms
pub mod ActionMoved
pub mod PeiCases
pub mod PeiSteps
pub mod PartLists
pub mod Volumes
pub mod Chains
pub mod Groups
pub mod Queue
pub mod Beside
pub mod EachDriver
mod PeiEnds
pub mod DriverEffectForms
pub mod DriverActions
pub mod DxeCases
pub mod DxeOnce
pub mod DxeSteps
mod DxeEnds
pub mod GroupLicences
pub mod GroupUnfolds
pub mod DxeStopsIdle
pub mod DriverCalls
pub mod DriverGrowth
pub mod Unrequested
mod DxeLicences
pub mod MovedHobs
mod Unmoved
mod NestedInItself
mod BootEnds
mod TurnedGroup
pub mod Bodies
pub mod Later
pub mod Staying
mod CoreSweeps
mod Firings
mod Openings
mod Standing
mod SoundSteps
mod PeiStarts
mod PeiOnce
pub mod PeiOrders
mod ReportedVolumes
mod LastingGuids
mod QuietServices
mod GuidLists
mod InstalledGuids
mod ActionGuids
mod MovedGuids
mod EventGuids
mod StepGuids
mod StoreLaws
mod EffectFacts
mod RunFacts
mod PeiLicences
mod PlanBoards
mod RefusedCalls
mod QueueOrder
mod PrintedStarts
pub mod Begun
pub mod NumberLists
pub mod WholeLines
pub mod DxeWays
pub mod DxeGrowing
pub mod DxeRuns
pub mod PeiWays
pub mod PeiGrowing
pub mod PeiRuns
pub mod Cursors
pub mod GroupRoots
pub mod Starts
