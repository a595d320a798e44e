mod BoundRows
mod ArchitecturalRows
mod CompanionRows
mod DiscoveryRows
mod DxeBoundRows
mod HandleRows
mod PeekRows
mod RequestRows
pub mod Held
pub mod ListFacts
pub mod Distinct
pub mod ScriptActions
pub mod ScriptHobs
mod PeiRows
mod WorkedBoots
pub mod Texts
mod NotificationRows
mod ServiceRows
