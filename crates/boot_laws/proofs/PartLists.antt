-- The drivers of a volume, by place and by rank: none stands twice, and each is a part of the volume.
use Rattle.std.proofs.Common.{◌≡◌, ℕ, suc, ◌+◌, ◌≤◌, ◌==◌, Bool, true, false, ◌&&◌, cond, List, [], ◌∷◌, ◌++◌, Option, Some, None, refl, sym, subst, ap, ◌∙◌, arith, is_some, option_map, length, ◌≢◌, filter, flat_map, slice_get, unwrap_or, option_and_then}
use Rattle.std.proofs.lemmas.Bool.Decides.{nat_tests}
use Rattle.pi_base.specs.{declared.phase.Phase.Phase, declared.phase.Phase.TheVariants.Dxe, Lists.Each, Lists.numbers}
use Rattle.mod_catalog.specs.{declared.catalogue.Catalog.Catalog, declared.catalogue.Module.Module, WellFormed.part_of}
use Rattle.mod_catalog.specs.Parts.{has_number, part_at, rank_at, module_volume, is_part_in, parts_from, parts_in}
use Rattle.boot_model.specs.PeiChoice.{is_rank, ranked}
use Rattle.boot_model.proofs.ListFacts.{each_more, each_filter, each_flat, each_has}
use Rattle.boot_model.proofs.Distinct.{Distinct, distinct_filter, distinct_flat, distinct_numbers}

-- the module of a number, if there is one, has a part and is in the volume
abbrev pub IsPartIn : Phase → ℕ → Option Module → Type 0
IsPartIn phase volume o = (is_some (option_and_then (part_of phase) o) ≡ true) × (unwrap_or (option_map (λ m. m.volume) o) 0 ≡ volume)

-- a number is that of a part in the volume
abbrev pub IsPartOfVolume : Phase → Catalog → ℕ → ℕ → Type 0
IsPartOfVolume phase catalog volume number = (is_some (part_at phase catalog number) ≡ true) × (module_volume catalog number ≡ volume)

pub both_of : (a b : Bool) → (a && b) ≡ true → (a ≡ true) × (b ≡ true)
both_of true b h = (refl, h)
both_of false b h = cc

pub is_equal : (a b : ℕ) → (a == b) ≡ true → a ≡ b
is_equal a b h = grind (arith, nat_tests)

part_here : (phase : Phase) (volume : ℕ) (o : Option Module) (m : Module) → o ≡ Some m → is_part_in phase volume m ≡ true → IsPartIn phase volume o
part_here phase volume o m e h =
    let both = both_of (m.volume == volume) _ h in
    let here : IsPartIn phase volume (Some m) = (both.1, is_equal m.volume volume both.0) in
    subst (IsPartIn phase volume) (sym e) here

-- one number more, if it is one
one_more : (P : ℕ → Type 0) (b : Bool) (n : ℕ) (rest : List ℕ) → (b ≡ true → P n) → Each P rest → Each P (cond b (n ∷ []) [] ++ rest)
one_more P true n rest p e = (p refl, e)
one_more P false n rest p e = e

parts_have : (phase : Phase) (volume : ℕ) (all ms : List Module) (from : ℕ) → ((i : ℕ) → slice_get all (from + i) ≡ slice_get ms i)
    → Each (λ n. IsPartIn phase volume (slice_get all n)) (parts_from phase volume from ms)
parts_have phase volume all [] from h = tt
parts_have phase volume all (m ∷ ms) from h =
    let same : from + 0 ≡ from = omega arith in
    let here : slice_get all from ≡ Some m = subst (λ n. slice_get all n ≡ Some m) same (h 0) in
    one_more (λ n. IsPartIn phase volume (slice_get all n)) (is_part_in phase volume m) from (parts_from phase volume (from + 1) ms)
    (part_here phase volume (slice_get all from) m here)
    (parts_have phase volume all ms (from + 1) (λ i. let next : from + suc i ≡ from + 1 + i = omega arith in subst (λ n. slice_get all n ≡ slice_get ms i) next (h (suc i))))

pub parts_are : (phase : Phase) (catalog : Catalog) (volume : ℕ) → Each (IsPartOfVolume phase catalog volume) (parts_in phase catalog volume)
parts_are phase catalog volume =
    parts_have phase volume catalog.modules catalog.modules 0 (λ i. let same : 0 + i ≡ i = omega arith in ap (slice_get catalog.modules) same)

parts_on : (phase : Phase) (volume from : ℕ) (ms : List Module) → Each (λ n. from ≤ n) (parts_from phase volume from ms)
parts_on phase volume from [] = tt
parts_on phase volume from (m ∷ ms) =
    one_more (λ n. from ≤ n) (is_part_in phase volume m) from (parts_from phase volume (from + 1) ms) (λ _. omega arith)
    (each_more (λ n. from + 1 ≤ n) (λ n. from ≤ n) (parts_from phase volume (from + 1) ms) (λ n h. omega (arith, h)) (parts_on phase volume (from + 1) ms))

with_one : (b : Bool) (n : ℕ) (rest : List ℕ) → Each (λ k. n + 1 ≤ k) rest → Distinct rest → Distinct (cond b (n ∷ []) [] ++ rest)
with_one true n rest above d = (each_more (λ k. n + 1 ≤ k) (λ k. n ≢ k) rest (λ k h e. omega (arith, h, e)) above, d)
with_one false n rest above d = d

parts_differ : (phase : Phase) (volume from : ℕ) (ms : List Module) → Distinct (parts_from phase volume from ms)
parts_differ phase volume from [] = tt
parts_differ phase volume from (m ∷ ms) =
    with_one (is_part_in phase volume m) from (parts_from phase volume (from + 1) ms) (parts_on phase volume (from + 1) ms) (parts_differ phase volume (from + 1) ms)

pub distinct_parts : (phase : Phase) (catalog : Catalog) (volume : ℕ) → Distinct (parts_in phase catalog volume)
distinct_parts phase catalog volume = parts_differ phase volume 0 catalog.modules

-- a number in the list of one rank has that rank
rank_is : (o : Option ℕ) (rank : ℕ) → is_rank o rank ≡ true → o ≡ Some rank
rank_is None rank h = cc
rank_is (Some other) rank h = ap Some (is_equal other rank h)

same_rank : (rank other : ℕ) → Some rank ≡ Some other → rank ≡ other
same_rank rank other h = cc

pub each_of : (P : ℕ → Type 0) → ((n : ℕ) → P n) → (xs : List ℕ) → Each P xs
each_of P h [] = tt
each_of P h (x ∷ xs) = (h x, each_of P h xs)

kept_one : (P : ℕ → Type 0) (b : Bool) (x : ℕ) (xs : List ℕ) → (b ≡ true → P x) → Each P xs → Each P (cond b (x ∷ xs) xs)
kept_one P true x xs p e = (p refl, e)
kept_one P false x xs p e = e

pub passed : (P : ℕ → Type 0) (test : ℕ → Bool) (xs : List ℕ) → ((n : ℕ) → test n ≡ true → P n) → Each P (filter test xs)
passed P test [] h = tt
passed P test (x ∷ xs) h = kept_one P (test x) x (filter test xs) (h x) (passed P test xs h)

pub distinct_ranked : (rank_of : ℕ → Option ℕ) (all : List ℕ) → Distinct all → Distinct (ranked rank_of all)
distinct_ranked rank_of all d =
    let ranks = numbers 0 (length all) in
    distinct_flat (λ rank n. rank_of n ≡ Some rank) (λ rank. filter (λ n. is_rank (rank_of n) rank) all) (λ rank other n h k. same_rank rank other (sym h ∙ k))
    ranks (distinct_numbers 0 (length all))
    (each_of (λ rank. Distinct (filter (λ n. is_rank (rank_of n) rank) all)) (λ rank. distinct_filter (λ n. is_rank (rank_of n) rank) all d) ranks)
    (each_of (λ rank. Each (λ n. rank_of n ≡ Some rank) (filter (λ n. is_rank (rank_of n) rank) all)) (λ rank. passed (λ n. rank_of n ≡ Some rank) (λ n. is_rank (rank_of n) rank) all (λ n h. rank_is (rank_of n) rank h)) ranks)

pub each_ranked : (P : ℕ → Type 0) (rank_of : ℕ → Option ℕ) (all : List ℕ) → Each P all → Each P (ranked rank_of all)
each_ranked P rank_of all e =
    each_flat P (λ rank. Unit {0}) (λ rank. filter (λ n. is_rank (rank_of n) rank) all) (numbers 0 (length all)) (λ rank _. each_filter P (λ n. is_rank (rank_of n) rank) all e)
    (each_of (λ rank. Unit {0}) (λ rank. tt) (numbers 0 (length all)))

-- the numbers in the list have a rank
pub have_rank : (rank_of : ℕ → Option ℕ) (all : List ℕ) → Each (λ n. is_some (rank_of n) ≡ true) (ranked rank_of all)
have_rank rank_of all =
    each_flat (λ n. is_some (rank_of n) ≡ true) (λ rank. Unit {0}) (λ rank. filter (λ n. is_rank (rank_of n) rank) all) (numbers 0 (length all))
    (λ rank _. passed (λ n. is_some (rank_of n) ≡ true) (λ n. is_rank (rank_of n) rank) all (λ n h. ap is_some (rank_is (rank_of n) rank h)))
    (each_of (λ rank. Unit {0}) (λ rank. tt) (numbers 0 (length all)))

-- lists of parts, one for each of some volumes
abbrev pub OfVolumes : Catalog → (ℕ → List ℕ) → Type 0
OfVolumes catalog f = (volume : ℕ) → Distinct (f volume) × Each (IsPartOfVolume Dxe catalog volume) (f volume)

-- a driver whose volume is one of these
abbrev pub IsKnown : Catalog → List ℕ → ℕ → Type 0
IsKnown catalog volumes number = (is_some (part_at Dxe catalog number) ≡ true) × (has_number volumes (module_volume catalog number) ≡ true)

pub distinct_of : (catalog : Catalog) (f : ℕ → List ℕ) → OfVolumes catalog f → (volumes : List ℕ) → Distinct volumes → Distinct (flat_map f volumes)
distinct_of catalog f of volumes d =
    distinct_flat (IsPartOfVolume Dxe catalog) f (λ volume other n h k. sym h.1 ∙ k.1) volumes d (each_of (λ v. Distinct (f v)) (λ v. (of v).0) volumes)
    (each_of (λ v. Each (IsPartOfVolume Dxe catalog v) (f v)) (λ v. (of v).1) volumes)

pub known_in : (catalog : Catalog) (volumes : List ℕ) (volume n : ℕ) → has_number volumes volume ≡ true → IsPartOfVolume Dxe catalog volume n → IsKnown catalog volumes n
known_in catalog volumes volume n has is = (is.0, subst (λ v. has_number volumes v ≡ true) (sym is.1) has)

pub known_of : (catalog : Catalog) (f : ℕ → List ℕ) → OfVolumes catalog f → (volumes : List ℕ) → Each (IsKnown catalog volumes) (flat_map f volumes)
known_of catalog f of volumes =
    each_flat (IsKnown catalog volumes) (λ v. has_number volumes v ≡ true) f volumes
    (λ v has. each_more (IsPartOfVolume Dxe catalog v) (IsKnown catalog volumes) (f v) (λ n is. known_in catalog volumes v n has is) (of v).1) (each_has volumes)

pub drivers_are : (catalog : Catalog) → OfVolumes catalog (parts_in Dxe catalog)
drivers_are catalog volume = (distinct_parts Dxe catalog volume, parts_are Dxe catalog volume)

-- the drivers that a volume schedules when it is discovered
abbrev pub ranked_in : Catalog → ℕ → List ℕ
ranked_in catalog volume = ranked (rank_at Dxe catalog) (parts_in Dxe catalog volume)

pub ranked_are : (catalog : Catalog) → OfVolumes catalog (ranked_in catalog)
ranked_are catalog volume =
    (distinct_ranked (rank_at Dxe catalog) (parts_in Dxe catalog volume) (distinct_parts Dxe catalog volume), each_ranked (IsPartOfVolume Dxe catalog volume) (rank_at Dxe catalog) (parts_in Dxe catalog volume) (parts_are Dxe catalog volume))

-- the drivers that volumes schedule have a rank
pub each_flat_ranked : (catalog : Catalog) (volumes : List ℕ) → Each (λ n. is_some (rank_at Dxe catalog n) ≡ true) (flat_map (ranked_in catalog) volumes)
each_flat_ranked catalog volumes =
    each_flat (λ n. is_some (rank_at Dxe catalog n) ≡ true) (λ v. Unit {0}) (ranked_in catalog) volumes (λ v _. have_rank (rank_at Dxe catalog) (parts_in Dxe catalog v)) (each_of (λ v. Unit {0}) (λ v. tt) volumes)
