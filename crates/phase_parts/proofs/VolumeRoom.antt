-- One number more of those that become known: there is room for it, since known volumes are no more than the volumes of the catalogue.
use Rattle.std.proofs.Common.{◌≡◌, ℕ, ◌+◌, ◌<◌, ◌≤◌, Bool, true, false, not, List, [], ◌∷◌, ◌++◌, length, get_or, drop, refl, sym, ap, ◌∙◌, subst, arith, if◌then◌else◌}
use Rattle.std.proofs.lemmas.List.{length_push, at_drop_more}
use Rattle.mod_catalog.specs.{declared.limits.TheConstants.MOST_VOLUMES, declared.catalogue.Catalog.Catalog, Parts.has_number}
use Rattle.mod_catalog.specs.WellFormed.{IsWellFormed}
use Rattle.phase_parts.specs.Known.{AreKnown, with_new}
use Rattle.boot_model.proofs.{ListFacts.each_push, Distinct.differ_pushed, Distinct.few_below}

-- a volume that is new comes to the known ones
known_if : (catalog : Catalog) (known : List ℕ) (number : ℕ) (b : Bool) → not (has_number known number) ≡ b → AreKnown catalog known → number < length catalog.volumes
    → AreKnown catalog (if b then known ++ number ∷ [] else known)
known_if catalog known number false e are below = are
known_if catalog known number true e are below =
    let new = not_true (has_number known number) e in
    record {
      differ = differ_pushed known number new are.differ;
      in_catalog = each_push (λ volume. volume < length catalog.volumes) known number are.in_catalog below;
    }
  where
    not_true : (c : Bool) → not c ≡ true → c ≡ false
    not_true true h = cc
    not_true false h = refl

pub known_more : (catalog : Catalog) (known next : List ℕ) (number : ℕ) (b : Bool) → b ≡ not (has_number known number) → next ≡ (if b then known ++ number ∷ [] else known) → AreKnown catalog known
    → number < length catalog.volumes → AreKnown catalog next
known_more catalog known next number b e now are below = subst (AreKnown catalog) (sym now) (known_if catalog known number b (sym e) are below)

-- known volumes are no more than all volumes
no_more : (catalog : Catalog) (known : List ℕ) → AreKnown catalog known → length known ≤ length catalog.volumes
no_more catalog known are = few_below known (length catalog.volumes) are.differ are.in_catalog

-- so there is room for one that is new
pub room : (catalog : Catalog) (known : List ℕ) (number : ℕ) (b : Bool) → b ≡ not (has_number known number) → IsWellFormed catalog → AreKnown catalog known → number < length catalog.volumes
    → b ≡ true → length known < MOST_VOLUMES
room catalog known number b e formed are below new =
    let more = no_more catalog (known ++ number ∷ []) (known_if catalog known number true (sym e ∙ new) are below) in
    let len = length_push known number in
    omega (arith, formed.few_volumes)

-- one number more of those that are put at the end
pub added_more : (known next numbers whole : List ℕ) (i : ℕ) (b : Bool) → b ≡ not (has_number known (get_or numbers i 0)) → next ≡ (if b then known ++ get_or numbers i 0 ∷ [] else known)
    → i < length numbers → with_new known (drop i numbers) ≡ whole → with_new next (drop (i + 1) numbers) ≡ whole
added_more known next numbers whole i b e now below h =
    let rest = drop (i + 1) numbers in
    let n = get_or numbers i 0 in
    let more = at_drop_more (with_new known) numbers i 0 below in
    let same : next ≡ (if not (has_number known n) then known ++ n ∷ [] else known) = now ∙ ap (λ c. if c then known ++ n ∷ [] else known) e in
    ap (λ xs. with_new xs rest) same ∙ sym more ∙ h
