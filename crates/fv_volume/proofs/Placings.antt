-- One text more behind others.
use Rattle.std.proofs.Common.{◌≡◌, ℕ, ◌+◌, List, [], ◌∷◌, ◌++◌, length, replicate, sym, ap, ◌∙◌, arith, append_assoc, length-append, append-nil}
use Rattle.std.proofs.lemmas.List.{length-replicate}
use Rattle.fv_volume.specs.Placing.{gap, laid}

-- the bytes of one text more: what lies between, and the text
pub laid_more : (alignment between from : ℕ) (texts : List (List ℕ)) (text : List ℕ)
    → laid alignment between from (texts ++ text ∷ [])
    ≡ laid alignment between from texts ++ (replicate (gap alignment (from + length (laid alignment between from texts))) between ++ text)
laid_more alignment between from [] text = rw (append-nil text) (ap (λ n. replicate (gap alignment n) between ++ text) (omega arith))
laid_more alignment between from (first ∷ rest) text =
    let g = gap alignment from in
    let next = from + g + length first in
    let behind = laid alignment between next rest in
    let more = laid_more alignment between next rest text in
    let place : next + length behind ≡ from + length (replicate g between ++ (first ++ behind)) =
    omega (arith, length-append (replicate g between) (first ++ behind), length-append first behind, length-replicate g between) in
    ap (λ xs. replicate g between ++ (first ++ xs)) more
    ∙ ap (λ n. replicate g between ++ (first ++ (behind ++ (replicate (gap alignment n) between ++ text)))) place
    ∙ ap (λ xs. replicate g between ++ xs) (sym (append_assoc first behind _))
    ∙ sym (append_assoc (replicate g between) (first ++ behind) _)

-- its length
pub length-laid_more : (alignment between from : ℕ) (texts : List (List ℕ)) (text : List ℕ)
    → length (laid alignment between from (texts ++ text ∷ []))
    ≡ length (laid alignment between from texts) + gap alignment (from + length (laid alignment between from texts)) + length text
length-laid_more alignment between from texts text =
    let g = gap alignment (from + length (laid alignment between from texts)) in
    ap length (laid_more alignment between from texts text)
    ∙ omega (arith, length-append (laid alignment between from texts) (replicate g between ++ text), length-append (replicate g between) text, length-replicate g between)

-- what is written behind other bytes where the next text is filled up to and added
pub appended : (alignment between from place : ℕ) (texts : List (List ℕ)) (text first out filled new : List ℕ)
    → out ≡ first ++ laid alignment between from texts → place ≡ from + length (laid alignment between from texts)
    → filled ≡ out ++ replicate (gap alignment place) between → new ≡ filled ++ text
    → new ≡ first ++ laid alignment between from (texts ++ text ∷ [])
appended alignment between from place texts text first out filled new before here fill add =
    let here_on = laid alignment between from texts in
    add ∙ ap (λ xs. xs ++ text) fill ∙ append_assoc out (replicate (gap alignment place) between) text
    ∙ ap (λ xs. xs ++ (replicate (gap alignment place) between ++ text)) before
    ∙ append_assoc first here_on (replicate (gap alignment place) between ++ text)
    ∙ ap (λ n. first ++ (here_on ++ (replicate (gap alignment n) between ++ text))) here
    ∙ ap (λ xs. first ++ xs) (sym (laid_more alignment between from texts text))
