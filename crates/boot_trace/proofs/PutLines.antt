-- Lines that are put one after another, the next one by its place.
use Rattle.std.proofs.Common.{◌≡◌, ℕ, ◌+◌, ◌≤◌, List, length, take, sym, ap, subst, flat_map, Option, Some, slice_get, take_all}
use Rattle.std.proofs.lemmas.Option.{slice_get_within, get_or_from_slice_get}
use Rattle.std.specs.Io.KnownBytes.{Appends}
use Rattle.boot_io.specs.Sink.{AppendsPart}
use Rattle.boot_io.proofs.PutsLaws.{lines_more, part_of_lines}

-- the next line too
pub next_line : {X : Type 0} (line : X → List ℕ) (xs : List X) (i : ℕ) (x : X) (old mid new : Option (List ℕ)) → Some x ≡ slice_get xs i
    → Appends old mid (flat_map line (take i xs)) → Appends mid new (line x) → Appends old new (flat_map line (take (i + 1) xs))
next_line line xs i x old mid new is = lines_more line xs i x old mid new (slice_get_within xs i x (sym is)) (sym (get_or_from_slice_get xs i x x (sym is)))

-- a part of the next line
pub next_part : {X : Type 0} (line : X → List ℕ) (xs : List X) (i : ℕ) (x : X) (old mid new : Option (List ℕ)) → Some x ≡ slice_get xs i
    → Appends old mid (flat_map line (take i xs)) → AppendsPart mid new (line x) → AppendsPart old new (flat_map line xs)
next_part line xs i x old mid new is = part_of_lines line xs i x old mid new (slice_get_within xs i x (sym is)) (sym (get_or_from_slice_get xs i x x (sym is)))

-- no line is left
pub all_lines : {X : Type 0} (line : X → List ℕ) (xs : List X) (i : ℕ) (old new : Option (List ℕ)) → length xs ≤ i → Appends old new (flat_map line (take i xs)) → Appends old new (flat_map line xs)
all_lines line xs i old new long f =
    let P : List ℕ → Type 0 = λ text. Appends old new text in
    subst P (ap (flat_map line) (take_all i xs long)) f
