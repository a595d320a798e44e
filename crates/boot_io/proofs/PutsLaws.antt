-- Texts that are put one after another, which callers cite: what is told of a sink after several puts.
use Rattle.std.proofs.Common.{◌≡◌, ◌<◌, ℕ, ◌+◌, List, [], ◌∷◌, ◌++◌, length, sym, ap, ◌∙◌, take, drop, get_or, append_assoc, flat_map, Option, Some, None, Result, Ok, Err, IsErr, true≢false, subst, take-append-drop, append-nil}
use Rattle.std.proofs.lemmas.List.{flat_map_more, take_more, drop_more}
use Rattle.std.specs.Io.KnownBytes.{Appends}
use Rattle.std.proofs.lemmas.Grind.{flat_map-append}
use Rattle.boot_io.specs.{declared.sink.SinkFault.SinkFault, Sink.Puts, Sink.AppendsPart, Line.Gathers}

-- one text, and then another
pub appends_then : (old mid new : Option (List ℕ)) (a b : List ℕ) → Appends old mid a → Appends mid new b → Appends old new (a ++ b)
appends_then None mid new a b f g = tt
appends_then (Some x) None new a b f g = absurd f
appends_then (Some x) (Some y) None a b f g = absurd g
appends_then (Some x) (Some y) (Some z) a b f g = g ∙ ap (λ t. t ++ b) f ∙ append_assoc x a b

-- no text
pub appends_none : (old : Option (List ℕ)) → Appends old old []
appends_none None = tt
appends_none (Some x) = sym (append-nil x)

-- a part of a text is a part of a longer one
pub part_of_more : (old new : Option (List ℕ)) (a b : List ℕ) → AppendsPart old new a → AppendsPart old new (a ++ b)
part_of_more old new a b p = (p.0, (p.1.0 ++ b, ap (λ t. t ++ b) p.1.1 ∙ append_assoc p.0 p.1.0 b), p.2)

-- a text, and then a part of another
pub part_then : (old mid new : Option (List ℕ)) (a b : List ℕ) → Appends old mid a → AppendsPart mid new b → AppendsPart old new (a ++ b)
part_then old mid new a b f p =
    (a ++ p.0, (p.1.0, ap (λ t. a ++ t) p.1.1 ∙ sym (append_assoc a p.0 p.1.0)), appends_then old mid new a p.0 f p.2)

-- a text, and then a call
pub puts_then : (r : Result (Unit {0}) SinkFault) (old mid new : Option (List ℕ)) (a b : List ℕ) → Appends old mid a → Puts r mid new b → Puts r old new (a ++ b)
puts_then (Ok u) old mid new a b f p = appends_then old mid new a b f p
puts_then (Err e) old mid new a b f p = part_then old mid new a b f p

-- lines of a list so far, and a part of the next one
pub part_of_lines : {X : Type 0} (line : X → List ℕ) (xs : List X) (i : ℕ) (x : X) (old mid new : Option (List ℕ)) → i < length xs → x ≡ get_or xs i x
    → Appends old mid (flat_map line (take i xs)) → AppendsPart mid new (line x) → AppendsPart old new (flat_map line xs)
part_of_lines line xs i x old mid new within is f p =
    let split : xs ≡ take i xs ++ x ∷ drop (i + 1) xs =
    sym (take-append-drop i xs) ∙ ap (λ t. take i xs ++ t) (drop_more xs i x within) ∙ ap (λ y. take i xs ++ y ∷ drop (i + 1) xs) (sym is) in
    let whole : flat_map line xs ≡ flat_map line (take i xs) ++ line x ++ flat_map line (drop (i + 1) xs) =
    ap (flat_map line) split ∙ flat_map-append line (take i xs) (x ∷ drop (i + 1) xs) ∙ sym (append_assoc (flat_map line (take i xs)) (line x) (flat_map line (drop (i + 1) xs))) in
    let part = part_of_more old new (flat_map line (take i xs) ++ line x) (flat_map line (drop (i + 1) xs)) (part_then old mid new (flat_map line (take i xs)) (line x) f p) in
    let P : List ℕ → Type 0 = λ t. AppendsPart old new t in
    subst P (sym whole) part

-- the lines of one item more
pub lines_more : {X : Type 0} (line : X → List ℕ) (xs : List X) (i : ℕ) (x : X) (old mid new : Option (List ℕ)) → i < length xs → x ≡ get_or xs i x
    → Appends old mid (flat_map line (take i xs)) → Appends mid new (line x) → Appends old new (flat_map line (take (i + 1) xs))
lines_more line xs i x old mid new within is f g =
    let more : take (i + 1) xs ≡ take i xs ++ x ∷ [] = take_more xs i x within ∙ ap (λ y. take i xs ++ y ∷ []) (sym is) in
    let whole : flat_map line (take (i + 1) xs) ≡ flat_map line (take i xs) ++ line x = ap (flat_map line) more ∙ sym (flat_map_more line [] (take i xs) x) in
    let P : List ℕ → Type 0 = λ t. Appends old new t in
    subst P (sym whole) (appends_then old mid new (flat_map line (take i xs)) (line x) f g)

-- a line, and then a call for a piece: the line is empty
pub gathers_both : (r : Result (Unit {0}) SinkFault) (old mid new : Option (List ℕ)) (line left piece : List ℕ) → left ≡ [] → Appends old mid line → Puts r mid new piece → Gathers r old new line left piece
gathers_both (Ok u) old mid new line left piece none f p =
    (line ++ piece, appends_then old mid new line piece f p, ap (λ t. (line ++ piece) ++ t) none ∙ append-nil (line ++ piece))
gathers_both (Err e) old mid new line left piece none f p = part_then old mid new line piece f p

-- a piece, and then another
pub gathers_then : (r : Result (Unit {0}) SinkFault) (old mid new : Option (List ℕ)) (line left last a b : List ℕ)
    → ((part : List ℕ) × Appends old mid part × (part ++ left ≡ line ++ a)) → Gathers r mid new left last b → Gathers r old new line last (a ++ b)
gathers_then (Ok u) old mid new line left last a b g h =
    let text : (g.0 ++ h.0) ++ last ≡ line ++ (a ++ b) =
    append_assoc g.0 h.0 last ∙ ap (λ t. g.0 ++ t) h.2 ∙ sym (append_assoc g.0 left b) ∙ ap (λ t. t ++ b) g.2 ∙ append_assoc line a b in
    (g.0 ++ h.0, appends_then old mid new g.0 h.0 g.1 h.1, text)
gathers_then (Err e) old mid new line left last a b g h =
    let P : List ℕ → Type 0 = λ text. AppendsPart old new text in
    let text : g.0 ++ (left ++ b) ≡ line ++ (a ++ b) = sym (append_assoc g.0 left b) ∙ ap (λ t. t ++ b) g.2 ∙ append_assoc line a b in
    subst P text (part_then old mid new g.0 (left ++ b) g.1 h)

-- a failure in a piece is one in it and what follows
pub gathers_fails : (old new : Option (List ℕ)) (line a b : List ℕ) → AppendsPart old new (line ++ a) → AppendsPart old new (line ++ (a ++ b))
gathers_fails old new line a b p =
    let P : List ℕ → Type 0 = λ text. AppendsPart old new text in
    subst P (append_assoc line a b) (part_of_more old new (line ++ a) b p)

-- pieces behind an empty line, and then the line
pub gathers_puts : (r : Result (Unit {0}) SinkFault) (old mid new : Option (List ℕ)) (line left a : List ℕ) → line ≡ []
    → ((part : List ℕ) × Appends old mid part × (part ++ left ≡ line ++ a)) → Puts r mid new left → Puts r old new a
gathers_puts r old mid new line left a none g p =
    let P : List ℕ → Type 0 = λ text. Puts r old new text in
    subst P (g.2 ∙ ap (λ t. t ++ a) none) (puts_then r old mid new g.0 left g.1 p)

-- a call that fails with a prefix
pub puts_err : (r : Result (Unit {0}) SinkFault) (old new : Option (List ℕ)) (text : List ℕ) → IsErr r → AppendsPart old new text → Puts r old new text
puts_err (Ok u) old new text err p = absurd (true≢false (sym err))
puts_err (Err e) old new text err p = p

-- a failure in a line and a piece
pub gathers_err : (r : Result (Unit {0}) SinkFault) (old new : Option (List ℕ)) (line left piece : List ℕ) → IsErr r → AppendsPart old new (line ++ piece) → Gathers r old new line left piece
gathers_err (Ok u) old new line left piece err p = absurd (true≢false (sym err))
gathers_err (Err e) old new line left piece err p = p
