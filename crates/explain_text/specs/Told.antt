-- The modules that started in a phase or wait at its end, and the volumes that a phase knew.
-- Own.
use Rattle.std.specs.Prelude.{◌≡◌, ℕ, ◌<◌, Bool, List, length}
use Rattle.pi_base.specs.{declared.phase.Phase.Phase, declared.phase.Phase.TheVariants.Pei, declared.phase.Phase.TheVariants.Dxe}
use Rattle.explain_text.specs.{declared.reasons.Explained.Explained, Flags.flag, Text.is_told}

-- so many flags tell which are told
pub record AreTold (e : Explained) (phase : Phase) (count : ℕ) (flags : List Bool) : Type 0 where
  pub count_is : length flags ≡ count
  pub each : (number : ℕ) → number < count → flag flags number ≡ is_told e phase number

abbrev pub known_in : Explained → Phase → List ℕ
known_in e Pei = e.reported
known_in e Dxe = e.discovered
