mod DxeEnds
mod DxeSteps
mod GiverSteps
mod HeldParts
mod OnceEach
pub mod OneRun
mod OneTelling
mod OwnBoots
mod PeiEnds
mod PeiSteps
mod Phases
mod WalkedLists
