-- One base more of those whose volumes are discovered.
use Rattle.std.proofs.Common.{◌≡◌, ℕ, zero, suc, ◌+◌, ◌<◌, List, [], ◌∷◌, ◌++◌, length, drop, get_or, Option, Some, None, refl, sym, subst, ap, ◌∙◌, arith, append_assoc, append-nil}
use Rattle.mod_catalog.specs.{declared.catalogue.Catalog.Catalog, Parts.volume_at}
use Rattle.boot_model.specs.{Discovery.discoveries, Reporting.newcomers}
use Rattle.dxe_core.specs.Order.{Drivers, IsOrderOf}

-- the order is that of the volumes so far, and with those of these bases they make the whole
abbrev pub AreSoFar : Catalog → List ℕ → List ℕ → Drivers → Type 0
AreSoFar catalog left whole order = (volumes : List ℕ) × IsOrderOf catalog volumes order × (volumes ++ discoveries catalog volumes left ≡ whole)

next : (bases : List ℕ) (i : ℕ) → i < length bases → drop i bases ≡ get_or bases i 0 ∷ drop (i + 1) bases
next [] i below = absurd (omega (arith, below))
next (base ∷ bases) zero below = refl
next (base ∷ bases) (suc i) below =
    let e : suc i + 1 ≡ suc (i + 1) = omega arith in
    next bases i (omega (arith, below)) ∙ ap (λ n. get_or bases i 0 ∷ drop n (base ∷ bases)) (sym e)

one_more : (catalog : Catalog) (volumes bases whole : List ℕ) (i : ℕ) (found : Option ℕ) → i < length bases → found ≡ volume_at catalog (get_or bases i 0)
    → volumes ++ discoveries catalog volumes (drop i bases) ≡ whole
    → (volumes ++ newcomers catalog volumes found) ++ discoveries catalog (volumes ++ newcomers catalog volumes found) (drop (i + 1) bases) ≡ whole
one_more catalog volumes bases whole i found below is so =
    let rest = drop (i + 1) bases in
    let with : Option ℕ → List ℕ = λ o. newcomers catalog volumes o ++ discoveries catalog (volumes ++ newcomers catalog volumes o) rest in
    append_assoc volumes (newcomers catalog volumes found) (discoveries catalog (volumes ++ newcomers catalog volumes found) rest)
    ∙ ap (λ o. volumes ++ with o) is ∙ ap (λ xs. volumes ++ discoveries catalog volumes xs) (sym (next bases i below)) ∙ so

-- the volume at the base comes into the order
pub comes : (catalog : Catalog) (bases whole : List ℕ) (i volume : ℕ) (old new : Drivers) → i < length bases → Some volume ≡ volume_at catalog (get_or bases i 0)
    → ((volumes : List ℕ) → IsOrderOf catalog volumes old → IsOrderOf catalog (volumes ++ newcomers catalog volumes (Some volume)) new)
    → AreSoFar catalog (drop i bases) whole old → AreSoFar catalog (drop (i + 1) bases) whole new
comes catalog bases whole i volume old new below is grows so =
    (so.0 ++ newcomers catalog so.0 (Some volume), grows so.0 so.1, one_more catalog so.0 bases whole i (Some volume) below is so.2)

-- there is none
pub passes : (catalog : Catalog) (bases whole : List ℕ) (i : ℕ) (old : Drivers) → i < length bases → None ≡ volume_at catalog (get_or bases i 0)
    → AreSoFar catalog (drop i bases) whole old → AreSoFar catalog (drop (i + 1) bases) whole old
passes catalog bases whole i old below is so =
    let same = append-nil so.0 in
    (so.0, so.1, subst (λ volumes. volumes ++ discoveries catalog volumes (drop (i + 1) bases) ≡ whole) same (one_more catalog so.0 bases whole i None below is so.2))
