mod Bearers
mod EachFacts
mod Files
mod HeldScripts
mod Joining
mod Kept
mod KeptNames
mod OneFile
mod PartFacts
mod VolumeFaults
mod WholeVolume
pub mod Bases
pub mod BorneNames
pub mod CatalogueOrFault
pub mod ListCuts
pub mod NestedParts
pub mod Numbering
pub mod OneCatalogue
pub mod OneFault
pub mod OwnModules
pub mod PlanVolumes
pub mod RankBounds
pub mod ShortExpressions
pub mod SoundFiles
pub mod StretchLaws
