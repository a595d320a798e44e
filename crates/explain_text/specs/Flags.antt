-- Which modules started in a phase, and which wait at its end.
-- Own.
use Rattle.std.specs.Prelude.{◌≡◌, ℕ, ◌<◌, Bool, true, false, ◌==◌, ◌&&◌, ◌||◌, if◌then◌else◌, nat_lt, List, length, slice_set, slice_index_or}
use Rattle.std.specs.List.{list_any}
use Rattle.pi_base.specs.{declared.phase.Phase.Phase, declared.phase.Phase.TheVariants.Pei, declared.phase.Phase.TheVariants.Dxe}
use Rattle.explain_text.specs.{declared.reasons.Begun.Begun, declared.reasons.Held.Held}

abbrev pub same_phase : Phase → Phase → Bool
same_phase Pei Pei = true
same_phase Pei Dxe = false
same_phase Dxe Pei = false
same_phase Dxe Dxe = true

-- whether a module started in a phase
abbrev pub is_start_of : Phase → ℕ → Begun → Bool
is_start_of phase number start = same_phase start.phase phase && start.number == number

abbrev pub has_started : List Begun → Phase → ℕ → Bool
has_started begun phase number = list_any (is_start_of phase number) begun

-- whether a module waits at the end of a phase
abbrev pub is_wait_of : Phase → ℕ → Held → Bool
is_wait_of phase number wait = same_phase wait.phase phase && wait.number == number

abbrev pub is_held : List Held → Phase → ℕ → Bool
is_held held phase number = list_any (is_wait_of phase number) held

-- the flags with that of a module set, where it has one
abbrev pub marked : ℕ → List Bool → List Bool
marked number flags = if nat_lt number (length flags) then slice_set flags number true else flags

-- the flag of a module
abbrev pub flag : List Bool → ℕ → Bool
flag flags number = slice_index_or flags number false

-- so many flags tell which modules started
pub record AreStarted (begun : List Begun) (phase : Phase) (count : ℕ) (flags : List Bool) : Type 0 where
  pub count_is : length flags ≡ count
  pub each : (number : ℕ) → number < count → flag flags number ≡ has_started begun phase number

-- those that wait are set as well
pub record AddsHeld (held : List Held) (phase : Phase) (old new : List Bool) : Type 0 where
  pub same_count : length new ≡ length old
  pub each : (number : ℕ) → number < length old → flag new number ≡ (flag old number || is_held held phase number)
