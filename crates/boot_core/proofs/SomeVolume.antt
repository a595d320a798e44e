-- A catalogue of a plan with a volume has one.
use Rattle.std.proofs.Common.{◌≡◌, ◌≤◌, ◌+◌, ℕ, List, [], ◌∷◌, length, ap, arith, length-append}
use Rattle.boot_plan.specs.{declared.plan.Plan.Plan, declared.plan.PlanVolume.PlanVolume}
use Rattle.mod_catalog.specs.{declared.catalogue.Catalog.Catalog, declared.catalogue.VolumeEntry.VolumeEntry}
use Rattle.mod_catalog.specs.Catalogue.{IsCatalogue, IsPlaced, PlanHolds}
use Rattle.mod_catalog.specs.{declared.holding.Holding.Holding, Holding.joined, Holding.nothing}

-- what was held before stays
held_more : (plan : Plan) (before holding : Holding) (volumes : List PlanVolume) (images : List (List ℕ)) → PlanHolds plan before volumes images holding → length before.volumes ≤ length holding.volumes
held_more plan before holding [] [] h =
    let same : length holding.volumes ≡ length before.volumes = ap (λ x. length x.volumes) h in
    omega (arith, same)
held_more plan before holding [] (bytes ∷ images) h = absurd h
held_more plan before holding (volume ∷ volumes) [] h = absurd h
held_more plan before holding (volume ∷ volumes) (bytes ∷ images) h =
    let first : Holding = h.0 in
    let more : length (joined before first).volumes ≤ length holding.volumes = held_more plan (joined before first) holding volumes images h.3 in
    let sum : length (joined before first).volumes ≡ length before.volumes + length first.volumes = length-append before.volumes first.volumes in
    omega (arith, more, sum)

some_placed : (plan : Plan) (before entries : List VolumeEntry) → IsPlaced plan before entries → 1 ≤ length entries
some_placed plan before [] placed = absurd placed
some_placed plan before (entry ∷ nested) placed = omega arith

some_held : (plan : Plan) (holding : Holding) (volumes : List PlanVolume) (images : List (List ℕ)) → PlanHolds plan nothing volumes images holding → 1 ≤ length volumes → 1 ≤ length holding.volumes
some_held plan holding [] images h some = absurd (omega (arith, some))
some_held plan holding (volume ∷ volumes) [] h some = absurd h
some_held plan holding (volume ∷ volumes) (bytes ∷ images) h some =
    let first : Holding = h.0 in
    let more : length first.volumes ≤ length holding.volumes = held_more plan (joined nothing first) holding volumes images h.3 in
    let one : 1 ≤ length first.volumes = some_placed plan [] first.volumes h.2 in
    omega (arith, more, one)

pub some_volume : (plan : Plan) (images : List (List ℕ)) (catalog : Catalog) → IsCatalogue plan images catalog → 1 ≤ length plan.volumes → 1 ≤ length catalog.volumes
some_volume plan images catalog sound some =
    let same : length catalog.volumes ≡ length sound.holding.volumes = ap length sound.volumes in
    let one = some_held plan sound.holding plan.volumes images sound.holds some in
    omega (arith, same, one)
