-- The ways that change the fewest, as they are kept while ways come one by one.
-- Own.
use Rattle.std.specs.Prelude.{ℕ, zero, suc, if◌then◌else◌, nat_lt, List, [], ◌∷◌, take}
use Rattle.explain_text.specs.declared.ways.cheapest.TheConstants.{MOST_WAYS}
use Rattle.explain_text.specs.Ways.{Way, cost, placed}

-- these ways too, of which so many are kept
abbrev pub kept : List Way → List Way → List Way
kept before [] = before
kept before (way ∷ ways) = kept (take MOST_WAYS (placed way before)) ways

-- the place of a way that changes so many GUIDs
abbrev pub place_of : ℕ → List Way → ℕ
place_of count [] = zero
place_of count (other ∷ others) = if nat_lt count (cost other) then zero else suc (place_of count others)
