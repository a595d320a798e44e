-- The parts of a phase in a volume as they are put in order: rank by rank, and then those without a rank. PI 1.8, volume 1, "A Priori File"; that the others
-- follow by place is own.
use Rattle.std.specs.Prelude.{ℕ, ◌+◌, Bool, false, ◌==◌, ◌&&◌, if◌then◌else◌, List, [], ◌∷◌, Option, Some, None, is_none, filter, flat_map}
use Rattle.pi_base.specs.{declared.phase.Phase.Phase, Lists.numbers}
use Rattle.mod_catalog.specs.{declared.catalogue.Catalog.Catalog, declared.catalogue.Module.Module, declared.catalogue.Part.Part}
use Rattle.mod_catalog.specs.Parts.{part_of, parts_in, rank_at}
use Rattle.boot_model.specs.PeiChoice.{is_rank, ranked}

-- whether a rank is this one; None means no rank
abbrev pub is_ranked_as : Option ℕ → Option ℕ → Bool
is_ranked_as None rank = is_none rank
is_ranked_as (Some wanted) rank = is_rank rank wanted

abbrev pub is_part_as : Option ℕ → Option Part → Bool
is_part_as wanted None = false
is_part_as wanted (Some part) = is_ranked_as wanted part.rank

-- whether a module has a part of a phase in a volume, with this rank, or without one
abbrev pub is_wanted : Phase → Option ℕ → ℕ → Module → Bool
is_wanted phase wanted volume m = m.volume == volume && is_part_as wanted (part_of phase m)

-- the modules that are wanted, by place; the first of these modules has this number
abbrev pub wanted_from : Phase → Option ℕ → ℕ → ℕ → List Module → List ℕ
wanted_from phase wanted volume number [] = []
wanted_from phase wanted volume number (m ∷ ms) =
    if is_wanted phase wanted volume m then number ∷ wanted_from phase wanted volume (number + 1) ms else wanted_from phase wanted volume (number + 1) ms

-- those of all modules
abbrev pub wanted_in : Phase → Option ℕ → Catalog → ℕ → List ℕ
wanted_in phase wanted catalog volume = wanted_from phase wanted volume 0 catalog.modules

-- the parts of a volume with a rank below a number, by rank
abbrev pub ranked_below : Phase → Catalog → ℕ → ℕ → List ℕ
ranked_below phase catalog volume end = flat_map (λ rank. wanted_in phase (Some rank) catalog volume) (numbers 0 end)

-- the parts of a volume that have a place in its a priori list, in list order
abbrev pub ranked_parts : Phase → Catalog → ℕ → List ℕ
ranked_parts phase catalog volume = ranked (rank_at phase catalog) (parts_in phase catalog volume)

-- the parts of a volume without a rank, by place
abbrev pub unranked_parts : Phase → Catalog → ℕ → List ℕ
unranked_parts phase catalog volume = filter (λ number. is_none (rank_at phase catalog number)) (parts_in phase catalog volume)
