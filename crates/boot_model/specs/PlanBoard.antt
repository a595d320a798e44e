-- The board of a plan: temporary RAM with its page region, RAM, and each volume of the plan, mapped at its base with the bytes of its FvLength.
-- Own; FvLength is of PI 1.8, volume 3, `EFI_FIRMWARE_VOLUME_HEADER`.
use Rattle.std.specs.Prelude.{ℕ, List, [], ◌∷◌, ◌++◌, Option, Some, None, take}
use Rattle.boot_plan.specs.declared.plan.Plan.{Plan}
use Rattle.mod_catalog.specs.{declared.catalogue.Catalog.Catalog, declared.catalogue.VolumeEntry.VolumeEntry}
use Rattle.phys_mem.specs.declared.rom.Rom.{Rom}
use Rattle.store_model.specs.StoreState.{Board}

-- the volume as mapped, from the first of these images, if the entry is a volume of the plan; a nested volume is inside its parent
abbrev pub mapped : VolumeEntry → Option ℕ → List (List ℕ) → List Rom
mapped entry (Some parent) images = []
mapped entry None [] = []
mapped entry None (image ∷ images) = record { base = entry.base; bytes = take entry.len image } ∷ []

-- the images that are left after an entry
abbrev pub left_by : Option ℕ → List (List ℕ) → List (List ℕ)
left_by (Some parent) images = images
left_by None [] = []
left_by None (image ∷ images) = images

-- the volumes of the plan among these entries, each with its image
abbrev pub roms_of : List VolumeEntry → List (List ℕ) → List Rom
roms_of [] images = []
roms_of (entry ∷ entries) images = mapped entry entry.parent images ++ roms_of entries (left_by entry.parent images)

-- the board of a plan whose images are catalogued
abbrev pub board_of : Plan → Catalog → List (List ℕ) → Board
board_of plan catalog images = record {
  temp = record { base = plan.temp.base; len = plan.temp.len };
  pages = plan.pages;
  ram = record { base = plan.ram.base; len = plan.ram.len };
  roms = roms_of catalog.volumes images;
}
