-- How a sweep continues: from pair to pair of one PPI, and from that PPI to the next.
-- Own.
use Rattle.std.specs.Prelude.{◌≡◌, ℕ, ◌+◌, ◌<◌, ◌≤◌, List, ◌∷◌, ◌++◌, None}
use Rattle.std.specs.Option.{option_or}
use Rattle.store_model.specs.{declared.store_handle.Sweep.Sweep, StoreState.StoreState}
use Rattle.store_model.specs.Service.Sweep.{first_firing, pairs_left, pairs_with}

-- the sweep, were it at these places
abbrev pub standing : Sweep → ℕ → ℕ → Sweep
standing sweep ppi note = record sweep { ppi_at = ppi; note_at = note }

pub record SweepsGoOn : Type 0 where
  pub both : (s : StoreState) (sweep : Sweep) (xs ys : List (ℕ × ℕ))
      → first_firing s sweep (xs ++ ys) ≡ option_or (first_firing s sweep xs) (first_firing s sweep ys)
  pub next_ppi : (sweep : Sweep) (ppi from : ℕ) → ppi < sweep.ppi_to
      → pairs_left (standing sweep ppi from) ≡ pairs_with sweep from ppi ++ pairs_left (standing sweep (ppi + 1) sweep.note_from)
  pub next_note : (sweep : Sweep) (ppi from : ℕ) → from < sweep.note_to
      → pairs_with sweep from ppi ≡ (ppi, from) ∷ pairs_with sweep (from + 1) ppi
  pub none_left : (s : StoreState) (sweep : Sweep) (ppi from : ℕ) → sweep.ppi_to ≤ ppi
      → first_firing s sweep (pairs_left (standing sweep ppi from)) ≡ None
