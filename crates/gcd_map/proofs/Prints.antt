-- Lines that are put one after another.
use Rattle.std.proofs.Common.{◌≡◌, ℕ, zero, suc, ◌+◌, ◌<◌, List, [], ◌∷◌, Option, length, take, get_or, refl, arith, flat_map}
use Rattle.std.specs.Io.KnownBytes.{Appends}
use Rattle.boot_io.specs.Sink.{AppendsPart}
use Rattle.boot_io.proofs.PutsLaws.{lines_more, part_of_lines}

same : {X : Type 0} (xs : List X) (at : ℕ) (a b : X) → at < length xs → get_or xs at a ≡ get_or xs at b
same [] at a b within = absurd (omega (arith, within))
same (x ∷ xs) zero a b within = refl
same (x ∷ xs) (suc at) a b within = same xs at a b (omega (arith, within))

item_is : {X : Type 0} (xs : List X) (at : ℕ) (other : X) → at < length xs → get_or xs at other ≡ get_or xs at (get_or xs at other)
item_is xs at other within = same xs at other (get_or xs at other) within

-- the sink failed in the line at a place
pub part_at : {X : Type 0} (line : X → List ℕ) (xs : List X) (at : ℕ) (other : X) (old mid new : Option (List ℕ)) → at < length xs
    → Appends old mid (flat_map line (take at xs)) → AppendsPart mid new (line (get_or xs at other)) → AppendsPart old new (flat_map line xs)
part_at line xs at other old mid new within before part =
    part_of_lines line xs at (get_or xs at other) old mid new within (item_is xs at other within) before part

-- the line at a place was put too
pub more_at : {X : Type 0} (line : X → List ℕ) (xs : List X) (at : ℕ) (other : X) (old mid new : Option (List ℕ)) → at < length xs
    → Appends old mid (flat_map line (take at xs)) → Appends mid new (line (get_or xs at other)) → Appends old new (flat_map line (take (at + 1) xs))
more_at line xs at other old mid new within before put =
    lines_more line xs at (get_or xs at other) old mid new within (item_is xs at other within) before put
