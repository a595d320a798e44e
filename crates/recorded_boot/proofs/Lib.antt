mod Building
mod Keeping
mod OneMore
mod OneOrder
pub mod Fronts
pub mod Modules
pub mod PeiSteps
pub mod DxeSteps
pub mod Runs
pub mod QuietLines
pub mod PeiCounts
pub mod DxeCounts
pub mod OrderStarts
mod Along
mod Among
mod Pushing
mod PeiOrder
mod DxeOrder
mod OrderRuns
mod OnePlace
mod Itself
mod ClosingStarts
mod Comings
mod Reaching
mod Calls
mod Faults
mod OneBoot
mod LawfulTexts
mod Choosing
mod DriverTextRuns
mod Facts
mod FirstOff
mod FreeSteps
mod Going
mod HandedOff
mod LastLines
mod Leading
mod Lines
mod Reading
mod TextRuns
mod WholeTexts
pub mod TextFronts
mod Pieces
mod Places
pub mod Telling
pub mod Passing
pub mod Handed
mod OnePass
