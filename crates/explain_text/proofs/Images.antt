-- Volumes for which no image is left.
use Rattle.std.proofs.Common.{◌≡◌, ℕ, ◌<◌, List, [], ◌∷◌, ◌++◌, length, Option, Some, None, refl, ap, arith}
use Rattle.mod_catalog.specs.declared.catalogue.VolumeEntry.{VolumeEntry}
use Rattle.boot_model.specs.PlanBoard.{roms_of, mapped, left_by}
use Rattle.explain_text.specs.Mapped.{mapped_from}

no_more : (entry : VolumeEntry) (entries : List VolumeEntry) (parent : Option ℕ) → roms_of entries [] ≡ [] → mapped entry parent [] ++ roms_of entries (left_by parent []) ≡ []
no_more entry entries None rest = rest
no_more entry entries (Some parent) rest = rest

no_roms : (entries : List VolumeEntry) → roms_of entries [] ≡ []
no_roms [] = refl
no_roms (entry ∷ entries) = no_more entry entries entry.parent (no_roms entries)

-- no image is left
pub none_left : (address : ℕ) (entries : List VolumeEntry) (left : List (List ℕ)) → length left < 1 → mapped_from address (roms_of entries left) ≡ []
none_left address entries [] none = ap (mapped_from address) (no_roms entries)
none_left address entries (image ∷ left) none = absurd omega (arith, none)
