-- Lines that are put one after another, which callers cite: what is told of a sink after a list of lines, or a part of it.
use Rattle.std.proofs.Common.{◌≡◌, ◌<◌, ◌≤◌, ℕ, ◌+◌, List, [], ◌∷◌, ◌++◌, Option, refl, sym, ap, ◌∙◌, subst, flat_map, Result, take, get_or, length, append-nil, take_all}
use Rattle.std.specs.Io.KnownBytes.{Appends}
use Rattle.boot_io.proofs.PutsLaws.{appends_none, puts_then, part_of_more, part_of_lines, lines_more}
use Rattle.std.proofs.lemmas.Grind.{get_or_default_zero}
use Rattle.boot_io.specs.{declared.sink.SinkFault.SinkFault, Sink.Puts, Sink.AppendsPart}
use Rattle.boot_model.specs.{declared.line.Line.Line, Text.line_text, Text.text_of}
use Rattle.boot_model.proofs.Texts.{text_of-append, text_of-flat_map}

-- one line, and then a call for others
pub line_then : (r : Result (Unit {0}) SinkFault) (old mid new : Option (List ℕ)) (line : Line) (b : List Line) → Appends old mid (line_text line) → Puts r mid new (text_of b) → Puts r old new (text_of (line ∷ b))
line_then r old mid new line b f p = puts_then r old mid new (line_text line) (text_of b) f p

-- lines, and then a call for others
pub lines_then : (r : Result (Unit {0}) SinkFault) (old mid new : Option (List ℕ)) (a b : List Line) → Appends old mid (text_of a) → Puts r mid new (text_of b) → Puts r old new (text_of (a ++ b))
lines_then r old mid new a b f p =
    let P : List ℕ → Type 0 = λ t. Puts r old new t in
    subst P (sym (text_of-append a b)) (puts_then r old mid new (text_of a) (text_of b) f p)

-- a part of lines is a part of more of them
pub part_of_longer : (old new : Option (List ℕ)) (a b : List Line) → AppendsPart old new (text_of a) → AppendsPart old new (text_of (a ++ b))
part_of_longer old new a b p =
    let P : List ℕ → Type 0 = λ t. AppendsPart old new t in
    subst P (sym (text_of-append a b)) (part_of_more old new (text_of a) (text_of b) p)

-- the whole is a part, and so is nothing
pub part_whole : (old new : Option (List ℕ)) (text : List ℕ) → Appends old new text → AppendsPart old new text
part_whole old new text f = (text, ([], sym (append-nil text)), f)

pub part_none : (old : Option (List ℕ)) (text : List ℕ) → AppendsPart old old text
part_none old text = ([], (text, refl), appends_none old)

-- a number in the list
item_is : (xs : List ℕ) (i : ℕ) → i < length xs → get_or xs i 0 ≡ get_or xs i (get_or xs i 0)
item_is xs i within = sym (get_or_default_zero xs i (get_or xs i 0) within)

-- lines of numbers so far, and the next one
pub part_of_each : (lines : ℕ → List Line) (xs : List ℕ) (i : ℕ) (old mid new : Option (List ℕ)) → i < length xs
    → Appends old mid (flat_map (λ x. text_of (lines x)) (take i xs)) → AppendsPart mid new (text_of (lines (get_or xs i 0))) → AppendsPart old new (text_of (flat_map lines xs))
part_of_each lines xs i old mid new within f p =
    let P : List ℕ → Type 0 = λ t. AppendsPart old new t in
    subst P (sym (text_of-flat_map lines xs)) (part_of_lines (λ x. text_of (lines x)) xs i (get_or xs i 0) old mid new within (item_is xs i within) f p)

pub each_more : (lines : ℕ → List Line) (xs : List ℕ) (i : ℕ) (old mid new : Option (List ℕ)) → i < length xs
    → Appends old mid (flat_map (λ x. text_of (lines x)) (take i xs)) → Appends mid new (text_of (lines (get_or xs i 0))) → Appends old new (flat_map (λ x. text_of (lines x)) (take (i + 1) xs))
each_more lines xs i old mid new within f p = lines_more (λ x. text_of (lines x)) xs i (get_or xs i 0) old mid new within (item_is xs i within) f p

pub each_done : (lines : ℕ → List Line) (xs : List ℕ) (i : ℕ) (old new : Option (List ℕ)) → length xs ≤ i
    → Appends old new (flat_map (λ x. text_of (lines x)) (take i xs)) → Appends old new (text_of (flat_map lines xs))
each_done lines xs i old new all f =
    let P : List ℕ → Type 0 = λ t. Appends old new t in
    subst P (ap (flat_map (λ x. text_of (lines x))) (take_all i xs all) ∙ sym (text_of-flat_map lines xs)) f
