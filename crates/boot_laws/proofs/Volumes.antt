-- The volumes that a report or a discovery adds are none of those before, and none comes twice.
use Rattle.std.proofs.Common.{◌≡◌, ℕ, ◌+◌, ◌<◌, ◌==◌, ◌⊎◌, inl, inr, Bool, true, false, not, ◌||◌, cond, List, [], ◌∷◌, ◌++◌, Option, Some, None, refl, sym, arith, ◌≢◌, filter, IfSome}
use Rattle.mod_catalog.specs.{declared.catalogue.Catalog.Catalog, declared.catalogue.VolumeEntry.VolumeEntry, WellFormed.AreNumbered}
use Rattle.pi_base.specs.Lists.{Each}
use Rattle.mod_catalog.specs.Parts.{has_number, is_nested_in, family_from, family, volume_at}
use Rattle.boot_model.specs.{Reporting.newcomers, Discovery.discoveries}
use Rattle.boot_model.proofs.ListFacts.{each_more, each_append, each_at}
use Rattle.boot_model.proofs.Distinct.{Apart, AllApart, Distinct, absent, distinct_append, distinct_filter}

-- the volume itself, or one behind it and before a number
abbrev IsOf : ℕ → ℕ → ℕ → Type 0
IsOf volume number x = (x ≡ volume) ⊎ ((volume < x) × (x < number))

of_more : (volume number x : ℕ) → IsOf volume number x → IsOf volume (number + 1) x
of_more volume number x (inl e) = inl e
of_more volume number x (inr h) = inr (h.0, omega (arith, h.1))

not_yet : (volume number : ℕ) → volume < number → (x : ℕ) → IsOf volume number x → x ≢ number
not_yet volume number below x (inl e) same = omega (arith, e, same, below)
not_yet volume number below x (inr h) same = omega (arith, h.1, same)

behind : (volume parent number : ℕ) → IsOf volume number parent → parent < number → volume < number
behind volume parent number (inl e) below = omega (arith, e, below)
behind volume parent number (inr h) below = omega (arith, h.0, below)

-- a volume is nested in one of those of a family: it comes behind the first
nested_behind : (volume number : ℕ) (volumes : List ℕ) (parent : Option ℕ) → Each (IsOf volume number) volumes → IfSome parent (λ p. p < number) → is_nested_in volumes parent ≡ true → volume < number
nested_behind volume number volumes None are below h = cc
nested_behind volume number volumes (Some parent) are below h = behind volume parent number (each_at (IsOf volume number) volumes parent are h) below

-- a family with one volume more, if it is nested in one of them
grown : (volume number : ℕ) (volumes : List ℕ) (b : Bool) → (b ≡ true → volume < number) → Each (IsOf volume number) volumes → Each (IsOf volume (number + 1)) (cond b (volumes ++ number ∷ []) volumes)
grown volume number volumes false below are = each_more (IsOf volume number) (IsOf volume (number + 1)) volumes (of_more volume number) are
grown volume number volumes true below are =
    let first = below refl in
    each_append (IsOf volume (number + 1)) volumes (number ∷ []) (each_more (IsOf volume number) (IsOf volume (number + 1)) volumes (of_more volume number) are) (inr (first, omega arith), tt)

grown_differ : (volume number : ℕ) (volumes : List ℕ) (b : Bool) → (b ≡ true → volume < number) → Each (IsOf volume number) volumes → Distinct volumes → Distinct (cond b (volumes ++ number ∷ []) volumes)
grown_differ volume number volumes false below are d = d
grown_differ volume number volumes true below are d =
    distinct_append volumes (number ∷ []) d (tt, tt) (each_more (IsOf volume number) (λ x. Apart x (number ∷ [])) volumes (λ x is. (not_yet volume number (below refl) x is, tt)) are)

family_differ : (volume number : ℕ) (volumes : List ℕ) (entries : List VolumeEntry) → AreNumbered number entries → Each (IsOf volume number) volumes → Distinct volumes → Distinct (family_from volumes number entries)
family_differ volume number volumes [] numbered are d = d
family_differ volume number volumes (entry ∷ entries) numbered are d =
    let nested = is_nested_in volumes entry.parent in
    let below : nested ≡ true → volume < number = nested_behind volume number volumes entry.parent are numbered.0 in
    family_differ volume (number + 1) (cond nested (volumes ++ number ∷ []) volumes) entries numbered.1 (grown volume number volumes nested below are) (grown_differ volume number volumes nested below are d)

pub distinct_family : (catalog : Catalog) (volume : ℕ) → AreNumbered 0 catalog.volumes → Distinct (family catalog volume)
distinct_family catalog volume numbered = family_differ volume 0 (volume ∷ []) catalog.volumes numbered (inl refl, tt) (tt, tt)

-- new to these
abbrev pub IsNew : List ℕ → ℕ → Type 0
IsNew known volume = has_number known volume ≡ false

pub not_true : (b : Bool) → not b ≡ true → b ≡ false
not_true true h = cc
not_true false h = refl

kept_new : (known : List ℕ) (x : ℕ) (xs : List ℕ) (b : Bool) → not (has_number known x) ≡ b → Each (IsNew known) xs → Each (IsNew known) (cond b (x ∷ xs) xs)
kept_new known x xs true e h = (not_true (has_number known x) e, h)
kept_new known x xs false e h = h

filtered_new : (known xs : List ℕ) → Each (IsNew known) (filter (λ other. not (has_number known other)) xs)
filtered_new known [] = tt
filtered_new known (x ∷ xs) = kept_new known x (filter (λ other. not (has_number known other)) xs) (not (has_number known x)) refl (filtered_new known xs)

either_new : (known : List ℕ) (b : Bool) (xs : List ℕ) → Each (IsNew known) xs → Each (IsNew known) (cond b [] xs)
either_new known true xs h = tt
either_new known false xs h = h

either_differ : (b : Bool) (xs : List ℕ) → Distinct xs → Distinct (cond b [] xs)
either_differ true xs h = tt
either_differ false xs h = h

pub newcomers_new : (catalog : Catalog) (known : List ℕ) (volume : Option ℕ) → Each (IsNew known) (newcomers catalog known volume)
newcomers_new catalog known None = tt
newcomers_new catalog known (Some volume) = either_new known (has_number known volume) _ (filtered_new known (family catalog volume))

pub newcomers_differ : (catalog : Catalog) (known : List ℕ) (volume : Option ℕ) → AreNumbered 0 catalog.volumes → Distinct (newcomers catalog known volume)
newcomers_differ catalog known None numbered = tt
newcomers_differ catalog known (Some volume) numbered =
    either_differ (has_number known volume) _ (distinct_filter (λ other. not (has_number known other)) (family catalog volume) (distinct_family catalog volume numbered))

parted_on : (here later more both : Bool) → (both ≡ false → (later ≡ false) × (more ≡ false)) → (here || both) ≡ false → ((here || later) ≡ false) × (more ≡ false)
parted_on true later more both f h = cc
parted_on false later more both f h = f h

pub parted : (known more : List ℕ) (v : ℕ) → IsNew (known ++ more) v → IsNew known v × IsNew more v
parted [] more v h = (refl, h)
parted (x ∷ xs) more v h = parted_on (x == v) (has_number xs v) (has_number more v) (has_number (xs ++ more) v) (λ k. parted xs more v k) h

each_none : (known : List ℕ) → AllApart known []
each_none [] = tt
each_none (x ∷ xs) = (tt, each_none xs)

-- new ones beside those that were known
beside : (known : List ℕ) (x : ℕ) (xs : List ℕ) → Apart x known → AllApart known xs → AllApart known (x ∷ xs)
beside [] x xs a e = tt
beside (k ∷ ks) x xs a e = (((λ same. a.0 (sym same)), e.0), beside ks x xs a.1 e.1)

pub new_apart : (known new : List ℕ) → Each (IsNew known) new → AllApart known new
new_apart known [] h = each_none known
new_apart known (x ∷ xs) h = beside known x xs (absent known x h.0) (new_apart known xs h.1)

discovered_new : (catalog : Catalog) (known bases : List ℕ) → Each (IsNew known) (discoveries catalog known bases)
discovered_new catalog known [] = tt
discovered_new catalog known (base ∷ bases) =
    let first = newcomers catalog known (volume_at catalog base) in
    each_append (IsNew known) first (discoveries catalog (known ++ first) bases) (newcomers_new catalog known (volume_at catalog base))
    (each_more (IsNew (known ++ first)) (IsNew known) (discoveries catalog (known ++ first) bases) (λ v h. (parted known first v h).0) (discovered_new catalog (known ++ first) bases))

pub discoveries_differ : (catalog : Catalog) (known bases : List ℕ) → AreNumbered 0 catalog.volumes → Distinct (discoveries catalog known bases)
discoveries_differ catalog known [] numbered = tt
discoveries_differ catalog known (base ∷ bases) numbered =
    let first = newcomers catalog known (volume_at catalog base) in
    let later = discoveries catalog (known ++ first) bases in
    distinct_append first later (newcomers_differ catalog known (volume_at catalog base) numbered) (discoveries_differ catalog (known ++ first) bases numbered)
    (new_apart first later (each_more (IsNew (known ++ first)) (IsNew first) later (λ v h. (parted known first v h).1) (discovered_new catalog (known ++ first) bases)))
