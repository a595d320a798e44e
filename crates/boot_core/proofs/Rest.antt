-- Lines that are put one after the other, seen from what is left to put.
use Rattle.std.proofs.Common.{◌≡◌, ℕ, List, ◌++◌, Option, sym, ◌∙◌, ap, append_assoc, subst}
use Rattle.std.specs.Io.KnownBytes.{Appends}
use Rattle.boot_io.specs.Sink.{AppendsPart}
use Rattle.boot_io.proofs.PutsLaws.{appends_then, part_then, part_of_more}

-- what was put, and what is left, make the whole
abbrev pub Leaves : Option (List ℕ) → Option (List ℕ) → List ℕ → List ℕ → Type 0
Leaves old now rest whole = (done : List ℕ) × Appends old now done × (done ++ rest ≡ whole)

-- one text more
pub leaves_less : (old mid now : Option (List ℕ)) (text rest left whole : List ℕ) → rest ≡ text ++ left → Leaves old mid rest whole → Appends mid now text → Leaves old now left whole
leaves_less old mid now text rest left whole is so put =
    (so.0 ++ text, appends_then old mid now so.0 text so.1 put, append_assoc so.0 text left ∙ ap (λ t. so.0 ++ t) (sym is) ∙ so.2)

-- a part of the next text
pub leaves_part : (old mid now : Option (List ℕ)) (text rest left whole : List ℕ) → rest ≡ text ++ left → Leaves old mid rest whole → AppendsPart mid now text → AppendsPart old now whole
leaves_part old mid now text rest left whole is so put =
    let P : List ℕ → Type 0 = λ t. AppendsPart old now t in
    subst P (append_assoc so.0 text left ∙ ap (λ t. so.0 ++ t) (sym is) ∙ so.2) (part_of_more old now (so.0 ++ text) left (part_then old mid now so.0 text so.1 put))
