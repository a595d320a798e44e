-- The next PEIM: the first eligible part of the PEI order, read from the cursor to the end and then from the front to the cursor. The cursor is after the PEIM
-- started last. The order is the volumes as they were reported; in a volume the a priori files in list order, then the others by place. PI 1.8, volume 1, "PEI
-- Dispatcher" and "A Priori File"; the rotation is own.
use Rattle.std.specs.Prelude.{ℕ, ◌+◌, Bool, false, ◌==◌, if◌then◌else◌, List, [], ◌∷◌, ◌++◌, Option, Some, None, is_none, filter, find, take, drop, length, flat_map}
use Rattle.pi_base.specs.{declared.phase.Phase.TheVariants.Pei, Lists.numbers}
use Rattle.mod_catalog.specs.{declared.catalogue.Catalog.Catalog, Parts.parts_in, Parts.rank_at}
use Rattle.boot_model.specs.{PeiMachine.PeiMachine, Eligible.is_eligible}

-- whether a place in an a priori list is this one
abbrev pub is_rank : Option ℕ → ℕ → Bool
is_rank None rank = false
is_rank (Some other) rank = other == rank

-- those of these parts that have a rank, by rank
abbrev pub ranked : (ℕ → Option ℕ) → List ℕ → List ℕ
ranked rank_of all = flat_map (λ rank. filter (λ number. is_rank (rank_of number) rank) all) (numbers 0 (length all))

-- the PEI order of a volume
abbrev pub volume_order : Catalog → ℕ → List ℕ
volume_order catalog volume = ranked (rank_at Pei catalog) (parts_in Pei catalog volume) ++ filter (λ number. is_none (rank_at Pei catalog number)) (parts_in Pei catalog volume)

-- the PEI order of the volumes that were reported
abbrev pub pei_order : Catalog → List ℕ → List ℕ
pei_order catalog reported = flat_map (volume_order catalog) reported

-- a list as it is read from the cursor on
abbrev pub rotated : {A : Type 0} → ℕ → List A → List A
rotated cursor order = drop cursor order ++ take cursor order

-- the next PEIM, if one may start
abbrev pub next_peim : Catalog → PeiMachine → Option ℕ
next_peim catalog m = find (is_eligible catalog m) (rotated m.cursor (pei_order catalog m.reported))

-- the place after a module in the order
abbrev pub cursor_behind : List ℕ → ℕ → ℕ
cursor_behind [] number = 0
cursor_behind (first ∷ rest) number = if first == number then 1 else 1 + cursor_behind rest number
