-- A plan and its images lead to one boot in the order of EDK2's dispatchers, and to one text.
-- Own.
use Rattle.std.specs.Prelude.{◌≡◌, ℕ, List}
use Rattle.mod_catalog.specs.{declared.catalogue.Catalog.Catalog, WellFormed.IsWellFormed}
use Rattle.store_model.specs.StoreState.{Board}
use Rattle.recorded_boot.specs.{declared.passes.Passed.Passed, OneBoot.put, Passes.PassesTo}

-- two boots in that order end in the same way, with the same text
abbrev pub OnePass : Type 0
OnePass = (board : Board) (catalog : Catalog) (fuel : ℕ) → IsWellFormed catalog → (one other : Passed) (text told : List ℕ)
    → PassesTo board catalog fuel (put text) one → PassesTo board catalog fuel (put told) other → (one ≡ other) × (text ≡ told)
