-- What a volume holds with all volumes nested in it: a volume, then each nested one by place, followed by its own nested ones
-- (PI 1.8, volume 3; the numbers are own).
use Rattle.std.specs.Prelude.{◌≡◌, ℕ, zero, suc, ◌+◌, List, [], ◌∷◌, length, take, drop, flat_map}
use Rattle.pi_base.specs.Lists.{EachPair}
use Rattle.fv_volume.specs.{declared.volume.Volume.Volume, Volume.IsVolume}
use Rattle.mod_catalog.specs.{declared.catalogue.Module.Module, declared.catalogue.VolumeEntry.VolumeEntry, ModuleEntry.IsModule}
use Rattle.mod_catalog.specs.ReadFile.{ReadFile, Stretch, AreRead, nested_in}
use Rattle.mod_catalog.specs.Totals.{module_files, script_bytes_of}
pub use Rattle.mod_catalog.specs.Holding.{Holding, joined, nothing}
pub use Rattle.mod_catalog.specs.Location.{Location, nested_location}

-- the image of a volume: its bytes, and where they are
pub record Image : Type 0 where
  pub bytes : List ℕ
  pub location : Location

-- the image of the volume of a number, in a stretch of another
abbrev pub nested_image : Image → ℕ → Stretch → Image
nested_image image number stretch = record { bytes = take stretch.len (drop stretch.at image.bytes); location = nested_location image.location number stretch }

-- what the stretches of an image hold, their volumes numbered from `next` on
abbrev pub AreNested : (Image → Holding → Type 0) → Image → ℕ → List Stretch → Holding → Type 0
AreNested Holds image next [] holding = holding ≡ nothing
AreNested Holds image next (stretch ∷ stretches) holding =
    (first : Holding) × Holds (nested_image image next stretch) first
    × (rest : Holding) × AreNested Holds image (next + length first.volumes) stretches rest × (holding ≡ joined first rest)

-- the stretches of the volumes nested in the files of a volume, in order
abbrev pub nested_stretches : List ReadFile → List Stretch
nested_stretches reads = flat_map (λ read. nested_in read.file read.sections) reads

-- the entry of a volume that is mapped at a place
abbrev pub entry_of : Location → Volume → VolumeEntry
entry_of location volume = record { base = location.base; len = volume.len; name = volume.name; parent = location.parent }

-- a volume and what it holds itself: its read files, and the modules of those that have one
pub record IsRead (image : Image) (volume : Volume) (reads : List ReadFile) (modules : List Module) : Type 0 where
  pub grammar : IsVolume image.bytes volume
  pub files : AreRead image.bytes volume.files reads
  pub entries : EachPair (IsModule image.bytes volume.files reads image.location.number) (module_files reads) modules

-- what a volume holds without those nested in it
abbrev pub own_holding : Image → Volume → List ReadFile → List Module → Holding
own_holding image volume reads modules = record {
  volumes = entry_of image.location volume ∷ [];
  modules = modules;
  script_bytes = script_bytes_of image.bytes reads;
}

-- what a volume holds, volumes nested at most so deep
abbrev pub Holds : ℕ → Image → Holding → Type 0
Holds zero image holding = ⊥
Holds (suc deep) image holding =
    (volume : Volume) × (reads : List ReadFile) × (own : List Module) × IsRead image volume reads own
    × (inner : Holding) × AreNested (Holds deep) image (image.location.number + 1) (nested_stretches reads) inner
    × (holding ≡ joined (own_holding image volume reads own) inner)
