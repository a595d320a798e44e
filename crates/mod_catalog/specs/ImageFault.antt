-- The first fault of a plan's images.
-- The plan's volumes are examined in order: a volume with all its files, then its place, then its read files in order.
-- Of a file come first whether it is one module too many, then its sections, then each script or nested volume in order.
-- A nested volume is examined whole before what follows it.
use Rattle.std.specs.Prelude.{◌≡◌, ◌⊎◌, ℕ, zero, suc, ◌+◌, ◌-◌, ◌<◌, ◌≤◌, true, false, List, ◌∷◌, ◌++◌, length, map, filter}
use Rattle.pi_base.specs.Lists.{Each}
use Rattle.fv_volume.specs.{declared.file.FfsFile.FfsFile, declared.volume.Volume.Volume, declared.fault.VolFault.VolFault}
use Rattle.fv_volume.specs.{Volume.IsVolume, Volume.IsFirstFault as IsVolumeFault, declared.sections.section.Section.Section}
use Rattle.fv_volume.specs.{declared.sections.fault.SecFault.SecFault, Stream.AreSections, Stream.IsFirstFault as IsSectionFault}
use Rattle.act_code.specs.{declared.script.Script.Script, declared.fault.ActFault.ActFault}
use Rattle.act_code.specs.Script.{IsScript, IsFault as IsScriptFault}
use Rattle.boot_plan.specs.{declared.plan.Plan.Plan, declared.plan.PlanVolume.PlanVolume}
use Rattle.mod_catalog.specs.declared.limits.TheConstants.{MOST_DEPTH, MOST_VOLUMES, MOST_MODULES, MOST_SCRIPT_BYTES}
use Rattle.mod_catalog.specs.{declared.image_fault.ImageFault.ImageFault, FileType.has_module}
use Rattle.mod_catalog.specs.declared.image_fault.ImageCause.TheVariants.{Nesting, TooManyModules, Place, TooManyVolumes, ScriptTotal}
use Rattle.mod_catalog.specs.ImageCause.{volume_cause, section_cause, script_cause}
use Rattle.mod_catalog.specs.ReadFile.{ReadFile, Stretch, IsReadFile, is_read, file_body, section_body, script_sections, nested_in}
use Rattle.mod_catalog.specs.Totals.{Totals, AreWithin, no_totals, totals_with, with_volume, module_files, bytes_of, script_bytes_of}
use Rattle.mod_catalog.specs.VolumeTree.{Image, Holding, Holds, AreNested, nested_image, nested_stretches, nothing}
use Rattle.mod_catalog.specs.Catalogue.{has_place, plan_image, PlanHolds}
pub use Rattle.mod_catalog.specs.declared.image_fault.FaultAt.{FaultAt}

-- what is refused of an image, after so much
abbrev pub Refusals : Type 1
Refusals = Image → Totals → FaultAt → Type 0

-- a file has no module, or there is room for one more
abbrev pub HasRoom : Totals → FfsFile → Type 0
HasRoom totals file = has_module file.kind ≡ true → totals.modules < MOST_MODULES

-- one module too many, at the file's header; `at` is the offset of the file's volume
pub record IsModuleTooMany (at : ℕ) (totals : Totals) (file : FfsFile) (fault : FaultAt) : Type 0 where
  pub is_module : has_module file.kind ≡ true
  pub most : MOST_MODULES ≤ totals.modules
  pub is : fault ≡ record { at = at + file.at; cause = TooManyModules }

-- the first fault of a file's sections; `at` is the offset of the file's volume
pub record IsSectionsFault (bytes : List ℕ) (file : FfsFile) (at : ℕ) (fault : FaultAt) : Type 0 where
  pub found : SecFault
  pub first : IsSectionFault (file_body bytes file) found
  pub is : fault ≡ record { at = at + file.body_at + found.at; cause = section_cause found.cause }

-- a body is some script
abbrev pub IsSomeScript : List ℕ → FfsFile → Section → Type 0
IsSomeScript bytes file section = (script : Script) × IsScript (section_body bytes file section) script

-- the first fault of a script; `at` is the offset of the script
pub record IsFaultOfScript (bytes : List ℕ) (file : FfsFile) (section : Section) (at : ℕ) (fault : FaultAt) : Type 0 where
  pub found : ActFault
  pub first : IsScriptFault (section_body bytes file section) found
  pub is : fault ≡ record { at = at + found.at; cause = script_cause found.cause }

-- a script passes the limit of all scripts, after so many bytes of them
pub record IsScriptTotal (bytes : List ℕ) (file : FfsFile) (section : Section) (at used : ℕ) (fault : FaultAt) : Type 0 where
  pub script : IsSomeScript bytes file section
  pub most : MOST_SCRIPT_BYTES < used + section.body_len
  pub is : fault ≡ record { at = at; cause = ScriptTotal }

-- what is wrong with a script
abbrev pub IsScriptRefused : List ℕ → FfsFile → Section → ℕ → ℕ → FaultAt → Type 0
IsScriptRefused bytes file section at used fault = IsFaultOfScript bytes file section at fault ⊎ IsScriptTotal bytes file section at used fault

-- the first script of a file that is refused, after sound ones; `at` is the offset of the file's volume
pub record IsScriptsFault (bytes : List ℕ) (file : FfsFile) (sections : List Section) (at used : ℕ) (fault : FaultAt) : Type 0 where
  pub before : List Section
  pub section : Section
  pub behind : List Section
  pub these : script_sections bytes file sections ≡ before ++ section ∷ behind
  pub sound : Each (IsSomeScript bytes file) before
  pub within : used + bytes_of before ≤ MOST_SCRIPT_BYTES
  pub first : IsScriptRefused bytes file section (at + file.body_at + section.body_at) (used + bytes_of before) fault

-- the first nested volume that is refused, after sound ones
pub record IsStretchesFault (Refused : Refusals) (Held : Image → Holding → Type 0) (image : Image) (totals : Totals) (stretches : List Stretch) (fault : FaultAt) : Type 0 where
  pub before : List Stretch
  pub stretch : Stretch
  pub behind : List Stretch
  pub these : stretches ≡ before ++ stretch ∷ behind
  pub inner : Holding
  pub nested : AreNested Held image totals.volumes before inner
  pub within : AreWithin (totals_with totals inner)
  pub first : Refused (nested_image image (totals.volumes + length inner.volumes) stretch) (totals_with totals inner) fault

-- the first fault of a file, after so much
pub data IsFileFault (Refused : Refusals) (Held : Image → Holding → Type 0) (image : Image) (totals : Totals) (file : FfsFile) (fault : FaultAt) : Type 0 where
  too_many_modules : IsModuleTooMany image.location.at totals file fault → IsFileFault Refused Held image totals file fault
  in_sections : HasRoom totals file → IsSectionsFault image.bytes file image.location.at fault → IsFileFault Refused Held image totals file fault
  in_scripts : HasRoom totals file → (sections : List Section) → AreSections (file_body image.bytes file) sections
      → IsScriptsFault image.bytes file sections image.location.at totals.script_bytes fault → IsFileFault Refused Held image totals file fault
  in_nested : (sections : List Section) → AreSections (file_body image.bytes file) sections
      → IsStretchesFault Refused Held image totals (nested_in file sections) fault → IsFileFault Refused Held image totals file fault

-- what the files before one amount to
abbrev pub totals_behind : Totals → List ℕ → List ReadFile → Holding → Totals
totals_behind totals bytes before inner = record {
  volumes = totals.volumes + length inner.volumes;
  modules = totals.modules + length (module_files before) + length inner.modules;
  script_bytes = totals.script_bytes + script_bytes_of bytes before + inner.script_bytes;
}

-- files of a volume that are sound and keep the limits, with what is nested in them
pub record AreSound (Held : Image → Holding → Type 0) (image : Image) (totals : Totals) (reads : List ReadFile) (inner : Holding) : Type 0 where
  pub each : Each (IsReadFile image.bytes) reads
  pub nested : AreNested Held image totals.volumes (nested_stretches reads) inner
  pub within : AreWithin (totals_behind totals image.bytes reads inner)

-- the first file of a volume with a fault, after sound ones
pub record IsFilesFault (Refused : Refusals) (Held : Image → Holding → Type 0) (image : Image) (totals : Totals) (files : List FfsFile) (fault : FaultAt) : Type 0 where
  pub before : List ReadFile
  pub file : FfsFile
  pub behind : List FfsFile
  pub these : filter (is_read files) files ≡ map (λ read. read.file) before ++ file ∷ behind
  pub inner : Holding
  pub sound : AreSound Held image totals before inner
  pub first : IsFileFault Refused Held image (totals_behind totals image.bytes before inner) file fault

-- a volume is one too many, or its bytes are no volume
abbrev pub IsOwnFault : Image → Totals → FaultAt → Type 0
IsOwnFault image totals fault =
    ((MOST_VOLUMES ≤ totals.volumes) × (fault ≡ record { at = image.location.at; cause = TooManyVolumes }))
    ⊎ ((totals.volumes < MOST_VOLUMES) × (found : VolFault) × IsVolumeFault image.bytes found
    × (fault ≡ record { at = image.location.at + found.at; cause = volume_cause found.cause }))

-- the first fault of a volume with so many levels left: it is nested too deep, or it has a fault itself, or one of its files has
abbrev pub IsRefused : ℕ → Refusals
IsRefused zero image totals fault = fault ≡ record { at = image.location.at; cause = Nesting }
IsRefused (suc deep) image totals fault =
    IsOwnFault image totals fault
    ⊎ ((totals.volumes < MOST_VOLUMES) × (volume : Volume) × IsVolume image.bytes volume
    × IsFilesFault (IsRefused deep) (Holds deep) image (with_volume totals) volume.files fault)

-- a volume may not be mapped at the base that the plan gives
abbrev pub IsPlaceFault : Plan → Holding → PlanVolume → Volume → FaultAt → Type 0
IsPlaceFault plan held volume found fault = (has_place plan held.volumes volume.base found.len ≡ false) × (fault ≡ record { at = 0; cause = Place })

-- a volume has its place, and one of its files has a fault
abbrev pub IsPlacedFault : Plan → Holding → PlanVolume → Image → Volume → FaultAt → Type 0
IsPlacedFault plan held volume image found fault =
    (has_place plan held.volumes volume.base found.len ≡ true)
    × IsFilesFault (IsRefused (MOST_DEPTH - 1)) (Holds (MOST_DEPTH - 1)) image (with_volume (totals_with no_totals held)) found.files fault

-- the first fault of a volume of the plan: its place is tested between its own faults and those of its files
abbrev pub IsPlanVolumeFault : Plan → Holding → PlanVolume → List ℕ → FaultAt → Type 0
IsPlanVolumeFault plan held volume bytes fault =
    IsOwnFault (plan_image volume bytes (length held.volumes)) (totals_with no_totals held) fault
    ⊎ ((length held.volumes < MOST_VOLUMES) × (found : Volume) × IsVolume bytes found
    × (IsPlaceFault plan held volume found fault ⊎ IsPlacedFault plan held volume (plan_image volume bytes (length held.volumes)) found fault))

-- the first fault of the images: sound volumes of the plan are before the one that has it
pub record IsImageFault (plan : Plan) (images : List (List ℕ)) (fault : ImageFault) : Type 0 where
  pub volumes_before : List PlanVolume
  pub volume : PlanVolume
  pub volumes_behind : List PlanVolume
  pub images_before : List (List ℕ)
  pub bytes : List ℕ
  pub images_behind : List (List ℕ)
  pub volumes : plan.volumes ≡ volumes_before ++ volume ∷ volumes_behind
  pub images_are : images ≡ images_before ++ bytes ∷ images_behind
  pub held : Holding
  pub sound : PlanHolds plan nothing volumes_before images_before held
  pub within : AreWithin (totals_with no_totals held)
  pub number : fault.volume ≡ length volumes_before
  pub first : IsPlanVolumeFault plan held volume bytes (record { at = fault.at; cause = fault.cause })
