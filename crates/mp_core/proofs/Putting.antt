-- A text that is put piece by piece.
use Rattle.std.proofs.Common.{◌≡◌, ℕ, zero, suc, ◌+◌, ◌<◌, List, [], ◌∷◌, ◌++◌, length, map, drop, get_or, append_assoc, Option, Result, refl, ap, ◌∙◌, sym, subst, arith, flat_map}
use Rattle.std.proofs.lemmas.List.{drop_more}
use Rattle.std.specs.{Io.KnownBytes.Appends, List.enumerate_from}
use Rattle.boot_io.specs.{Line.spaced, declared.sink.SinkFault.SinkFault, Sink.AppendsPart, Sink.Puts}
use Rattle.boot_io.proofs.PutsLaws.{appends_then, part_of_more, part_then, puts_then}

-- what was put so far and what is left are the whole text
abbrev pub IsLeft : Option (List ℕ) → Option (List ℕ) → List ℕ → List ℕ → Type 0
IsLeft old now left whole = (part : List ℕ) × Appends old now part × (part ++ left ≡ whole)

-- a piece more was put
pub left_more : (old mid new : Option (List ℕ)) (piece left whole : List ℕ) → IsLeft old mid (piece ++ left) whole → Appends mid new piece → IsLeft old new left whole
left_more old mid new piece left whole so_far put =
    (so_far.0 ++ piece, appends_then old mid new so_far.0 piece so_far.1 put, append_assoc so_far.0 piece left ∙ so_far.2)

-- the sink failed in a piece
pub left_fails : (old mid new : Option (List ℕ)) (piece left whole : List ℕ) → IsLeft old mid (piece ++ left) whole → AppendsPart mid new piece → AppendsPart old new whole
left_fails old mid new piece left whole so_far put =
    let P : List ℕ → Type 0 = λ text. AppendsPart old new text in
    subst P (append_assoc so_far.0 piece left ∙ so_far.2) (part_of_more old new (so_far.0 ++ piece) left (part_then old mid new so_far.0 piece so_far.1 put))

-- what is left, spelled in another way
pub left_is : (old now : Option (List ℕ)) (left same whole : List ℕ) → IsLeft old now left whole → left ≡ same → IsLeft old now same whole
left_is old now left same whole so_far is = (so_far.0, so_far.1, ap (λ t. so_far.0 ++ t) (sym is) ∙ so_far.2)

-- the last piece
pub left_put : (r : Result (Unit {0}) SinkFault) (old mid new : Option (List ℕ)) (piece whole : List ℕ) → IsLeft old mid piece whole → Puts r mid new piece → Puts r old new whole
left_put r old mid new piece whole so_far put =
    let P : List ℕ → Type 0 = λ text. Puts r old new text in
    subst P so_far.2 (puts_then r old mid new so_far.0 piece so_far.1 put)

read_again : {X : Type 0} (xs : List X) (i : ℕ) (a b : X) → i < length xs → get_or xs i a ≡ get_or xs i b
read_again [] i a b within = absurd (omega (arith, within))
read_again (x ∷ xs) zero a b within = refl
read_again (x ∷ xs) (suc i) a b within = read_again xs i a b (omega (arith, within))

-- an item is the same, whatever stands for what is not there
pub same_read : {X : Type 0} (xs : List X) (i : ℕ) (other : X) → i < length xs → get_or xs i other ≡ get_or xs i (get_or xs i other)
same_read xs i other within = read_again xs i other (get_or xs i other) within

-- the line of an item and its index, and those of the items behind it
pub next_line : {X : Type 0} (line : ℕ × X → List ℕ) (xs : List X) (i : ℕ) (x : X) → i < length xs → x ≡ get_or xs i x
    → flat_map line (enumerate_from i (drop i xs)) ≡ line (i, x) ++ flat_map line (enumerate_from (i + 1) (drop (i + 1) xs))
next_line line xs i x within is =
    ap (λ ys. flat_map line (enumerate_from i ys)) (drop_more xs i x within)
    ∙ ap (λ y. line (i, y) ++ flat_map line (enumerate_from (i + 1) (drop (i + 1) xs))) (sym is)

-- the words of a list, one by one
pub next_word : (word : ℕ → List ℕ) (xs : List ℕ) (i : ℕ) → i < length xs
    → flat_map spaced (map word (drop i xs)) ≡ spaced (word (get_or xs i 0)) ++ flat_map spaced (map word (drop (i + 1) xs))
next_word word xs i within = ap (λ ys. flat_map spaced (map word ys)) (drop_more xs i 0 within)
