-- Every boot ends: its last line is its result. Own.
use Rattle.std.specs.Prelude.{◌≡◌, ℕ, List, [], ◌∷◌, ◌++◌}
use Rattle.mod_catalog.specs.{declared.catalogue.Catalog.Catalog, WellFormed.AreNumbered}
use Rattle.boot_model.specs.{declared.line.Line.Line, declared.line.RunEnd.RunEnd, BootRun.boot_lines}
use Rattle.boot_model.specs.declared.line.Line.TheVariants as L
use Rattle.store_model.specs.StoreState.{Board}

abbrev pub EndsWithResult : List Line → Type 0
EndsWithResult lines = (before : List Line) × (end : RunEnd) × (lines ≡ before ++ L.Result end ∷ [])

abbrev pub BootsEnd : Type 0
BootsEnd = (board : Board) (catalog : Catalog) → AreNumbered 0 catalog.volumes → (fuel : ℕ) → EndsWithResult (boot_lines board catalog fuel)
