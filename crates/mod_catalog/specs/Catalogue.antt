-- The catalogue of a plan and its images without a fault: all volumes and modules, in the order of their numbers.
use Rattle.std.specs.Prelude.{◌≡◌, ℕ, ◌+◌, Bool, true, ◌&&◌, ◌||◌, nat_le, List, [], ◌∷◌, length, filter, None, is_none}
use Rattle.std.specs.List.{list_all}
use Rattle.boot_plan.specs.{declared.plan.Plan.Plan, declared.plan.PlanVolume.PlanVolume, declared.limits.TheConstants.MOST_END}
use Rattle.mod_catalog.specs.{declared.limits.TheConstants.MOST_DEPTH, declared.catalogue.Catalog.Catalog}
use Rattle.mod_catalog.specs.{declared.catalogue.VolumeEntry.VolumeEntry, Totals.AreWithin, Totals.totals_with}
pub use Rattle.mod_catalog.specs.Totals.{no_totals}
use Rattle.mod_catalog.specs.VolumeTree.{Image, Holding, Holds, joined, nothing}

-- no address is in both of two stretches of memory
abbrev pub are_apart : ℕ → ℕ → ℕ → ℕ → Bool
are_apart base len other other_len = nat_le (base + len) other || nat_le (other + other_len) base

-- whether a volume of so many bytes may be mapped at a base: its end is in range, and it meets neither memory nor the plan volumes before it
abbrev pub has_place : Plan → List VolumeEntry → ℕ → ℕ → Bool
has_place plan before base len =
    nat_le (base + len) MOST_END && are_apart base len plan.temp.base plan.temp.len && are_apart base len plan.ram.base plan.ram.len
    && list_all (λ entry. are_apart base len entry.base entry.len) (filter (λ entry. is_none entry.parent) before)

-- the image of a volume of the plan
abbrev pub plan_image : PlanVolume → List ℕ → ℕ → Image
plan_image volume bytes number = record { bytes = bytes; location = record { base = volume.base; at = 0; parent = None; number = number } }

-- the first of these volumes, which the others are nested in, has its place
abbrev pub IsPlaced : Plan → List VolumeEntry → List VolumeEntry → Type 0
IsPlaced plan before [] = ⊥
IsPlaced plan before (entry ∷ nested) = has_place plan before entry.base entry.len ≡ true

-- what the plan's volumes hold, after what was held before them
abbrev pub PlanHolds : Plan → Holding → List PlanVolume → List (List ℕ) → Holding → Type 0
PlanHolds plan before [] [] holding = holding ≡ before
PlanHolds plan before [] (bytes ∷ images) holding = ⊥
PlanHolds plan before (volume ∷ volumes) [] holding = ⊥
PlanHolds plan before (volume ∷ volumes) (bytes ∷ images) holding =
    (first : Holding) × Holds MOST_DEPTH (plan_image volume bytes (length before.volumes)) first
    × IsPlaced plan before.volumes first.volumes
    × PlanHolds plan (joined before first) volumes images holding

-- the catalogue of a plan's images: all that they hold, within the limits
pub record IsCatalogue (plan : Plan) (images : List (List ℕ)) (catalog : Catalog) : Type 0 where
  pub holding : Holding
  pub holds : PlanHolds plan nothing plan.volumes images holding
  pub volumes : catalog.volumes ≡ holding.volumes
  pub modules : catalog.modules ≡ holding.modules
  pub within : AreWithin (totals_with no_totals holding)
