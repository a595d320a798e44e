-- The volumes of a plan lie apart from each other and from memory.
use Rattle.std.proofs.Common.{◌≡◌, ℕ, zero, suc, ◌+◌, ◌<◌, ◌≤◌, Bool, true, false, ◌&&◌, cond, List, [], ◌∷◌, ◌++◌, length, take, Option, Some, None, is_some, refl, sym, ap, subst, ◌∙◌, arith, inl, inr, nat_le, append_assoc, append-nil, length-take, filter, is_none, leb-true}
use Rattle.std.specs.List.{list_all}
use Rattle.std.proofs.{lemmas.Bool.and_parts, lemmas.Bool.or_cases, lemmas.Bool.Decides.nat_tests}
use Rattle.pi_base.specs.{declared.span.Span.Span, Span.AreDisjoint, Lists.Each, Lists.Ordered}
use Rattle.pi_base.proofs.ListFacts.{each_more, each_append}
use Rattle.boot_plan.specs.{declared.plan.Plan.Plan, declared.plan.PlanVolume.PlanVolume, declared.limits.TheConstants.MOST_END}
use Rattle.phys_mem.specs.declared.rom.Rom.{Rom}
use Rattle.mod_catalog.specs.{declared.catalogue.Catalog.Catalog, declared.catalogue.VolumeEntry.VolumeEntry}
use Rattle.mod_catalog.specs.{declared.read_file.Stretch.Stretch, declared.holding.Holding.Holding, Holding.joined, Holding.nothing}
use Rattle.mod_catalog.specs.VolumeTree.{Image, Holds, AreNested, nested_image, nested_stretches, entry_of}
use Rattle.mod_catalog.specs.Catalogue.{are_apart, has_place, plan_image, IsPlaced, PlanHolds}
use Rattle.store_model.specs.StateFacts.{AreApart, IsMapped, rom_range}
use Rattle.boot_model.specs.PlanBoard.{mapped, left_by, roms_of, board_of}
use Rattle.boot_laws.specs.Boards.{BoardsAreSound}

-- a volume that is nested in another
abbrev IsNested : VolumeEntry → Type 0
IsNested entry = is_some entry.parent ≡ true

nested_each : (H : Image → Holding → Type 0) → ((image : Image) (holding : Holding) → is_some image.location.parent ≡ true → H image holding → Each IsNested holding.volumes)
    → (image : Image) (next : ℕ) (stretches : List Stretch) (holding : Holding) → AreNested H image next stretches holding → Each IsNested holding.volumes
nested_each H are image next [] holding is = subst (λ h. Each IsNested h.volumes) (sym is) tt
nested_each H are image next (s ∷ rest) holding is =
    let first = are (nested_image image next s) is.0 refl is.1 in
    let behind = nested_each H are image (next + length is.0.volumes) rest is.2 is.3 in
    subst (λ h. Each IsNested h.volumes) (sym is.4) (each_append IsNested is.0.volumes is.2.volumes first behind)

holds_nested : (deep : ℕ) (image : Image) (holding : Holding) → is_some image.location.parent ≡ true → Holds deep image holding → Each IsNested holding.volumes
holds_nested zero image holding some h = absurd h
holds_nested (suc deep) image holding some h =
    let inner = nested_each (Holds deep) (λ i x is held. holds_nested deep i x is held) image (image.location.number + 1) (nested_stretches h.1) h.4 h.5 in
    subst (λ x. Each IsNested x.volumes) (sym h.6) (some, inner)

-- an image of a plan holds its volume first, and nested ones behind it
record Tree (image : Image) (holding : Holding) : Type 0 where
  entry : VolumeEntry
  nested : List VolumeEntry
  these : holding.volumes ≡ entry ∷ nested
  base : entry.base ≡ image.location.base
  parent : entry.parent ≡ image.location.parent
  are : Each IsNested nested

tree_of : (deep : ℕ) (image : Image) (holding : Holding) → Holds deep image holding → Tree image holding
tree_of zero image holding h = absurd h
tree_of (suc deep) image holding h = record {
  entry = entry_of image.location h.0;
  nested = h.4.volumes;
  these = rw h.6 refl;
  base = refl;
  parent = refl;
  are = nested_each (Holds deep) (λ i x is held. holds_nested deep i x is held) image (image.location.number + 1) (nested_stretches h.1) h.4 h.5;
}

-- nested volumes are not mapped by themselves
unmapped : (entry : VolumeEntry) (parent : Option ℕ) (entries : List VolumeEntry) (images : List (List ℕ)) → is_some parent ≡ true
    → mapped entry parent images ++ roms_of entries (left_by parent images) ≡ roms_of entries images
unmapped entry None entries images some = cc
unmapped entry (Some parent) entries images some = refl

nested_roms : (nested entries : List VolumeEntry) (images : List (List ℕ)) → Each IsNested nested → roms_of (nested ++ entries) images ≡ roms_of entries images
nested_roms [] entries images are = refl
nested_roms (entry ∷ nested) entries images are = unmapped entry entry.parent (nested ++ entries) images are.0 ∙ nested_roms nested entries images are.1

abbrev rom_of : VolumeEntry → List ℕ → Rom
rom_of entry image = record { base = entry.base; bytes = take entry.len image }

first_rom : (entry : VolumeEntry) (entries : List VolumeEntry) (image : List ℕ) (images : List (List ℕ)) → entry.parent ≡ None → roms_of (entry ∷ entries) (image ∷ images) ≡ rom_of entry image ∷ roms_of entries images
first_rom entry entries image images none = ap (λ parent. mapped entry parent (image ∷ images) ++ roms_of entries (left_by parent (image ∷ images))) none

-- the volumes of the plan among some entries, which a mapped volume has to keep away from
abbrev of_plan : VolumeEntry → Bool
of_plan entry = is_none entry.parent

abbrev IsAway : Rom → VolumeEntry → Type 0
IsAway rom entry = AreApart (record { base = entry.base; len = entry.len }) (rom_range rom)

record IsMappedBehind (plan : Plan) (before : List VolumeEntry) (rom : Rom) : Type 0 where
  end : rom.base + length rom.bytes ≤ MOST_END
  temp : AreApart (record { base = plan.temp.base; len = plan.temp.len }) (rom_range rom)
  ram : AreApart (record { base = plan.ram.base; len = plan.ram.len }) (rom_range rom)
  others : Each (IsAway rom) (filter of_plan before)

-- a volume of so many bytes at a base, and one with no more
apart_is : (base len short other other_len : ℕ) → short ≤ len → are_apart base len other other_len ≡ true → AreApart (record { base = other; len = other_len }) (record { base = base; len = short })
apart_is base len short other other_len few e =
    elim (or_cases (nat_le (base + len) other) (nat_le (other + other_len) base) e) [
      | inl above ↦ inr (omega (arith, leb-true (base + len) other above, few))
      | inr below ↦ inl (leb-true (other + other_len) base below)
    ]

away_each : (base len : ℕ) (rom : Rom) (entries : List VolumeEntry) → rom.base ≡ base → length rom.bytes ≤ len → list_all (λ entry. are_apart base len entry.base entry.len) entries ≡ true → Each (IsAway rom) entries
away_each base len rom [] at few e = tt
away_each base len rom (entry ∷ entries) at few e =
    let parts = and_parts (are_apart base len entry.base entry.len) (list_all (λ x. are_apart base len x.base x.len) entries) e in
    let here = apart_is base len (length rom.bytes) entry.base entry.len few parts.0 in
    (subst (λ b. AreApart (record { base = entry.base; len = entry.len }) (record { base = b; len = length rom.bytes })) (sym at) here, away_each base len rom entries at few parts.1)

placed : (plan : Plan) (before : List VolumeEntry) (entry : VolumeEntry) (image : List ℕ) → has_place plan before entry.base entry.len ≡ true → IsMappedBehind plan before (rom_of entry image)
placed plan before entry image e =
    let few : length (take entry.len image) ≤ entry.len = omega (arith, length-take entry.len image) in
    let end_ = nat_le (entry.base + entry.len) MOST_END in
    let temp = are_apart entry.base entry.len plan.temp.base plan.temp.len in
    let ram = are_apart entry.base entry.len plan.ram.base plan.ram.len in
    let others = list_all (λ other. are_apart entry.base entry.len other.base other.len) (filter of_plan before) in
    let a = and_parts end_ (temp && (ram && others)) (split end_ temp ram others e) in
    let b = and_parts temp (ram && others) a.1 in
    let c = and_parts ram others b.1 in
    let high = leb-true (entry.base + entry.len) MOST_END a.0 in
    record {
      end = omega (arith, high, few);
      temp = apart_is entry.base entry.len (length (take entry.len image)) plan.temp.base plan.temp.len few b.0;
      ram = apart_is entry.base entry.len (length (take entry.len image)) plan.ram.base plan.ram.len few c.0;
      others = away_each entry.base entry.len (rom_of entry image) (filter of_plan before) refl few c.1;
    }
  where
    split : (a b c d : Bool) → (a && b && c && d) ≡ true → (a && (b && (c && d))) ≡ true
    split true true true d e = e
    split true true false d e = e
    split true false c d e = e
    split false b c d e = e

-- what keeps away from more keeps away from fewer, and from the volume of the plan that came before it
filtered_parts : (b : Bool) (P : VolumeEntry → Type 0) (x : VolumeEntry) (xs ys zs : List VolumeEntry) → (Each P zs → Each P xs × Each P ys) → Each P (cond b (x ∷ zs) zs) → Each P (cond b (x ∷ xs) xs) × Each P ys
filtered_parts true P x xs ys zs f e = let rest = f e.1 in ((e.0, rest.0), rest.1)
filtered_parts false P x xs ys zs f e = f e

each_filtered : (P : VolumeEntry → Type 0) (xs ys : List VolumeEntry) → Each P (filter of_plan (xs ++ ys)) → Each P (filter of_plan xs) × Each P (filter of_plan ys)
each_filtered P [] ys e = (tt, e)
each_filtered P (x ∷ xs) ys e = filtered_parts (of_plan x) P x (filter of_plan xs) (filter of_plan ys) (filter of_plan (xs ++ ys)) (each_filtered P xs ys) e

fewer : (plan : Plan) (before more : List VolumeEntry) (rom : Rom) → IsMappedBehind plan (before ++ more) rom → IsMappedBehind plan before rom
fewer plan before more rom is = record { end = is.end; temp = is.temp; ram = is.ram; others = (each_filtered (IsAway rom) before more is.others).0 }

first_away : (entry : VolumeEntry) (nested : List VolumeEntry) (rom : Rom) → entry.parent ≡ None → Each (IsAway rom) (filter of_plan (entry ∷ nested)) → IsAway rom entry
first_away entry nested rom none each = first (is_none entry.parent) (ap is_none none) each where
  first : (b : Bool) → b ≡ true → Each (IsAway rom) (cond b (entry ∷ filter of_plan nested) (filter of_plan nested)) → IsAway rom entry
  first true e each = each.0
  first false e each = cc

shorter : (entry : VolumeEntry) (image : List ℕ) (rom : Rom) → IsAway rom entry → AreApart (rom_range (rom_of entry image)) (rom_range rom)
shorter entry image rom (inl below) = let few = length-take entry.len image in inl (omega (arith, few, below))
shorter entry image rom (inr above) = inr above

abbrev RomsApart : Rom → Rom → Type 0
RomsApart a b = AreApart (rom_range a) (rom_range b)

-- what the volumes of a plan map, behind those before them
record Maps (plan : Plan) (before : List VolumeEntry) (images : List (List ℕ)) (holding : Holding) : Type 0 where
  more : List VolumeEntry
  these : holding.volumes ≡ before ++ more
  each : Each (IsMappedBehind plan before) (roms_of more images)
  apart : Ordered RomsApart (roms_of more images)

place_of : (plan : Plan) (before volumes : List VolumeEntry) (entry : VolumeEntry) (nested : List VolumeEntry) → volumes ≡ entry ∷ nested → IsPlaced plan before volumes → has_place plan before entry.base entry.len ≡ true
place_of plan before volumes entry nested e is = let there : IsPlaced plan before (entry ∷ nested) = subst (IsPlaced plan before) e is in there

maps_more : (plan : Plan) (before first : Holding) (image : Image) (bytes : List ℕ) (images : List (List ℕ)) (holding : Holding) → Tree image first → image.location.parent ≡ None
    → IsPlaced plan before.volumes first.volumes → Maps plan (joined before first).volumes images holding → Maps plan before.volumes (bytes ∷ images) holding
maps_more plan before first image bytes images holding tree none is maps =
    let entry = tree.entry in
    let top : entry.parent ≡ None = tree.parent ∙ none in
    let place = place_of plan before.volumes first.volumes entry tree.nested tree.these is in
    let rom = rom_of entry bytes in
    let rest = roms_of maps.more images in
    let roms : roms_of (first.volumes ++ maps.more) (bytes ∷ images) ≡ rom ∷ rest =
    ap (λ vs. roms_of (vs ++ maps.more) (bytes ∷ images)) tree.these ∙ first_rom entry (tree.nested ++ maps.more) bytes images top ∙ ap (λ rs. rom ∷ rs) (nested_roms tree.nested maps.more images tree.are) in
    let Behind : List VolumeEntry → Type 0 = λ vs. Each (IsMappedBehind plan (before.volumes ++ vs)) rest in
    let behind : Each (IsMappedBehind plan (before.volumes ++ (entry ∷ tree.nested))) rest = subst Behind tree.these maps.each in
    let each : Each (IsMappedBehind plan before.volumes) (rom ∷ rest) =
    (placed plan before.volumes entry bytes place, each_more (IsMappedBehind plan (before.volumes ++ (entry ∷ tree.nested))) (IsMappedBehind plan before.volumes) rest (fewer plan before.volumes (entry ∷ tree.nested)) behind) in
    let away : Each (RomsApart rom) rest =
    each_more (IsMappedBehind plan (before.volumes ++ (entry ∷ tree.nested))) (RomsApart rom) rest
    (λ r h. shorter entry bytes r (first_away entry tree.nested r top (each_filtered (IsAway r) before.volumes (entry ∷ tree.nested) h.others).1)) behind in
    record {
      more = first.volumes ++ maps.more;
      these = maps.these ∙ append_assoc before.volumes first.volumes maps.more;
      each = subst (λ rs. Each (IsMappedBehind plan before.volumes) rs) (sym roms) each;
      apart = subst (λ rs. Ordered RomsApart rs) (sym roms) (away, maps.apart);
    }

plan_maps : (plan : Plan) (before : Holding) (volumes : List PlanVolume) (images : List (List ℕ)) (holding : Holding) → PlanHolds plan before volumes images holding → Maps plan before.volumes images holding
plan_maps plan before [] [] holding is = record { more = []; these = ap (λ h. h.volumes) is ∙ sym (append-nil before.volumes); each = tt; apart = tt }
plan_maps plan before [] (bytes ∷ images) holding is = absurd is
plan_maps plan before (volume ∷ volumes) [] holding is = absurd is
plan_maps plan before (volume ∷ volumes) (bytes ∷ images) holding is =
    let image = plan_image volume bytes (length before.volumes) in
    maps_more plan before is.0 image bytes images holding (tree_of 4 image is.0 is.1) refl is.2 (plan_maps plan (joined before is.0) volumes images holding is.3)

-- memory that has no address in common lies apart
spans_apart : (a b : Span) → 0 < a.len → 0 < b.len → AreDisjoint a b → AreApart (record { base = a.base; len = a.len }) (record { base = b.base; len = b.len })
spans_apart a b some other disjoint = by (nat_le (a.base + a.len) b.base) (nat_le (b.base + b.len) a.base) refl refl where
  by : (above below : Bool) → nat_le (a.base + a.len) b.base ≡ above → nat_le (b.base + b.len) a.base ≡ below → AreApart (record { base = a.base; len = a.len }) (record { base = b.base; len = b.len })
  by true below e f = inl (leb-true (a.base + a.len) b.base e)
  by false true e f = inr (leb-true (b.base + b.len) a.base f)
  by false false e f = absurd (meet (nat_le a.base b.base) refl) where
    meet : (b' : Bool) → nat_le a.base b.base ≡ b' → ⊥
    meet true g = let le : a.base ≤ b.base = grind (arith, nat_tests, g) in let lt : b.base < a.base + a.len = grind (arith, nat_tests, e) in disjoint b.base (le, lt) (omega arith, omega (arith, other))
    meet false g = let lt : b.base < a.base = grind (arith, nat_tests, g) in let le : a.base < b.base + b.len = grind (arith, nat_tests, f) in disjoint a.base (omega arith, omega (arith, some)) (omega (arith, lt), le)

mapped_is : (plan : Plan) (catalog : Catalog) (images : List (List ℕ)) (rom : Rom) → IsMappedBehind plan [] rom → IsMapped (board_of plan catalog images) rom
mapped_is plan catalog images rom is = record { end = is.end; temp = is.temp; ram = is.ram }

pub boards_are_sound : BoardsAreSound
boards_are_sound plan images catalog range is =
    let maps = plan_maps plan nothing plan.volumes images is.holding is.holds in
    let same : maps.more ≡ catalog.volumes = sym (is.volumes ∙ maps.these) in
    let each : Each (IsMappedBehind plan []) (roms_of catalog.volumes images) = subst (λ vs. Each (IsMappedBehind plan []) (roms_of vs images)) same maps.each in
    let temp = range.temp in
    let ram = range.ram in
    let temp_low = temp.address in
    let temp_least = temp.least in
    let ram_least = ram.least in
    let room = range.pages.2 in
    record {
      temp_len = temp.most;
      ram_len = ram.most;
      temp_begin = omega (arith, temp_low);
      temp_end = temp.end;
      ram_end = ram.end;
      pages = omega (arith, room);
      memory = spans_apart plan.temp plan.ram (omega (arith, temp_least)) (omega (arith, ram_least)) range.apart;
      roms = each_more (IsMappedBehind plan []) (IsMapped (board_of plan catalog images)) (roms_of catalog.volumes images) (mapped_is plan catalog images) each;
      roms_apart = subst (λ vs. Ordered RomsApart (roms_of vs images)) same maps.apart;
    }
