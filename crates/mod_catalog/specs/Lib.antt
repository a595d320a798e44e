pub mod APriori
pub mod Examined
pub mod Image
pub mod Lying
pub mod Modules
pub mod Ranks
pub mod Refused
pub mod Scripts
-- What the images of a plan are, in the order in which to read it: files and what they hold, then the catalogue, its faults and what it keeps. PI 1.8, volume 3, firmware volumes; volume 1, a priori files.
-- Which file types have modules, volumes and a priori lists, and in which sections.
pub mod FileType
-- The files of a volume that are read: those with a module, those with a volume, the two a priori files.
pub mod ReadFile
-- The a priori list of a phase, and the ranks that it gives.
pub mod APrioriNames
-- The module of a file: what it has for PEI and for DXE.
pub mod ModuleEntry
-- What a part of the images holds, and a part after another.
pub mod Holding
-- A volume with all volumes nested in it, in order.
pub mod VolumeTree
-- The place of a nested volume, given the place of the volume around it.
pub mod Location
-- What the limits count: volumes, modules, bytes of scripts.
pub mod Totals
-- All volumes and modules by number, if there is no fault.
pub mod Catalogue
-- Modules by number: their parts, blocks and volumes.
pub mod Parts
-- The causes of a fault, from those of volumes, sections and scripts.
pub mod ImageCause
-- The first fault of the images.
pub mod ImageFault
-- What every catalogue keeps.
pub mod WellFormed
