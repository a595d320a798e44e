-- The pieces of a record's line.
use Rattle.std.proofs.Common.{◌≡◌, ℕ, List, [], ◌∷◌, ◌++◌, append_assoc, map, decimal, flat_map, Option, refl, sym, ap, ◌∙◌}
use Rattle.boot_io.specs.Line.{spaced}
use Rattle.boot_io.proofs.PutsLaws.{appends_none}
use Rattle.mp_core.specs.OutcomeText.{record_keyword, record_line}
use Rattle.mp_core.proofs.Putting.{IsLeft}

pieces : (keyword processor numbers : List ℕ) → keyword ++ (processor ++ (numbers ++ 10 ∷ [])) ≡ (keyword ++ (processor ++ numbers)) ++ 10 ∷ []
pieces keyword processor numbers =
    ap (λ t. keyword ++ t) (sym (append_assoc processor numbers (10 ∷ []))) ∙ sym (append_assoc keyword (processor ++ numbers) (10 ∷ []))

pub line_whole : (old : Option (List ℕ)) (processor : ℕ) (numbers : List ℕ) → (numbers ≡ [] → ⊥)
    → IsLeft old old (record_keyword ++ (spaced (decimal processor) ++ (flat_map spaced (map decimal numbers) ++ 10 ∷ []))) (record_line (processor, numbers))
line_whole old processor [] some = absurd (some refl)
line_whole old processor (n ∷ numbers) some =
    ([], appends_none old, pieces record_keyword (spaced (decimal processor)) (flat_map spaced (map decimal (n ∷ numbers))))
