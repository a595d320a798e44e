-- A volume and those nested in it: each once, and each of the catalogue.
use Rattle.std.proofs.Common.{◌≡◌, ℕ, ◌+◌, ◌<◌, ◌⊎◌, inl, inr, Bool, true, false, cond, List, [], ◌∷◌, ◌++◌, length, Option, Some, None, refl, arith, subst, ◌≢◌, IfSome}
use Rattle.mod_catalog.specs.{declared.catalogue.Catalog.Catalog, declared.catalogue.VolumeEntry.VolumeEntry}
use Rattle.pi_base.specs.Lists.{Each}
use Rattle.mod_catalog.specs.WellFormed.{AreNumbered, IsWellFormed}
use Rattle.boot_model.specs.Licence.{AllDiffer}
use Rattle.mod_catalog.specs.Parts.{is_nested_in, family_from, family}
use Rattle.phase_parts.specs.Known.{AreInCatalog}
use Rattle.boot_model.proofs.ListFacts.{each_more, each_push, each_at}
use Rattle.boot_model.proofs.Distinct.{differ_pushed}
use Rattle.phase_parts.proofs.ListFacts.{absent}

-- the volume itself, or one behind it and before a number
abbrev IsOf : ℕ → ℕ → ℕ → Type 0
IsOf volume number x = (x ≡ volume) ⊎ ((volume < x) × (x < number))

of_more : (volume number x : ℕ) → IsOf volume number x → IsOf volume (number + 1) x
of_more volume number x (inl e) = inl e
of_more volume number x (inr h) = inr (h.0, omega (arith, h.1))

not_yet : (volume number : ℕ) → volume < number → (x : ℕ) → IsOf volume number x → x ≢ number
not_yet volume number below x (inl e) same = omega (arith, e, same, below)
not_yet volume number below x (inr h) same = omega (arith, h.1, same)

behind : (volume parent number : ℕ) → IsOf volume number parent → parent < number → volume < number
behind volume parent number (inl e) below = omega (arith, e, below)
behind volume parent number (inr h) below = omega (arith, h.0, below)

-- what is nested in one of a family comes behind its first
nested_behind : (volume number : ℕ) (volumes : List ℕ) (parent : Option ℕ) → Each (IsOf volume number) volumes → IfSome parent (λ p. p < number) → is_nested_in volumes parent ≡ true → volume < number
nested_behind volume number volumes None are below h = cc
nested_behind volume number volumes (Some parent) are below h = behind volume parent number (each_at (IsOf volume number) volumes parent are h) below

-- the volumes of a family before a number
record IsFamily (volume number : ℕ) (volumes : List ℕ) : Type 0 where
  of : Each (IsOf volume number) volumes
  differ : AllDiffer volumes

one_more : (volume number : ℕ) (volumes : List ℕ) (b : Bool) → (b ≡ true → volume < number) → IsFamily volume number volumes → IsFamily volume (number + 1) (cond b (volumes ++ number ∷ []) volumes)
one_more volume number volumes false below is = record { of = each_more (IsOf volume number) (IsOf volume (number + 1)) volumes (of_more volume number) is.of; differ = is.differ }
one_more volume number volumes true below is =
    let first = below refl in
    let new = absent volumes number (each_more (IsOf volume number) (λ x. x ≢ number) volumes (not_yet volume number first) is.of) in
    record {
      of = each_push (IsOf volume (number + 1)) volumes number (each_more (IsOf volume number) (IsOf volume (number + 1)) volumes (of_more volume number) is.of) (inr (first, omega arith));
      differ = differ_pushed volumes number new is.differ;
    }

all_of : (volume number : ℕ) (volumes : List ℕ) (entries : List VolumeEntry) → AreNumbered number entries → IsFamily volume number volumes
    → IsFamily volume (number + length entries) (family_from volumes number entries)
all_of volume number volumes [] numbered is = let P : ℕ → Type 0 = λ n. IsFamily volume n volumes in let e : number ≡ number + 0 = omega arith in subst P e is
all_of volume number volumes (entry ∷ entries) numbered is =
    let nested = is_nested_in volumes entry.parent in
    let grown = cond nested (volumes ++ number ∷ []) volumes in
    let more = one_more volume number volumes nested (nested_behind volume number volumes entry.parent is.of numbered.0) is in
    let P : ℕ → Type 0 = λ n. IsFamily volume n (family_from grown (number + 1) entries) in
    let e : (number + 1) + length entries ≡ number + length (entry ∷ entries) = omega arith in
    subst P e (all_of volume (number + 1) grown entries numbered.1 more)

whole : (catalog : Catalog) (volume : ℕ) → IsWellFormed catalog → IsFamily volume (0 + length catalog.volumes) (family catalog volume)
whole catalog volume formed = all_of volume 0 (volume ∷ []) catalog.volumes formed.parents (record { of = (inl refl, tt); differ = (refl, tt) })

pub family_differs : (catalog : Catalog) (volume : ℕ) → IsWellFormed catalog → AllDiffer (family catalog volume)
family_differs catalog volume formed = (whole catalog volume formed).differ

inside : (volume count x : ℕ) → volume < count → IsOf volume (0 + count) x → x < count
inside volume count x below (inl e) = omega (arith, e, below)
inside volume count x below (inr h) = omega (arith, h.1)

pub family_in_catalog : (catalog : Catalog) (volume : ℕ) → IsWellFormed catalog → volume < length catalog.volumes → AreInCatalog catalog (family catalog volume)
family_in_catalog catalog volume formed below =
    each_more (IsOf volume (0 + length catalog.volumes)) (λ x. x < length catalog.volumes) (family catalog volume) (λ x is. inside volume (length catalog.volumes) x below is) (whole catalog volume formed).of
