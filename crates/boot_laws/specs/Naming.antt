-- What a choice may name: it looks at the sink to which the lines of the boot were written. Own.
use Rattle.std.specs.Prelude.{◌≡◌, ℕ, Bool, true, false, List, Option, None, if◌then◌else◌}
use Rattle.std.specs.Io.KnownBytes.{Appends}
use Rattle.boot_model.specs.{declared.line.Line.Line, Text.text_of}
use Rattle.boot_laws.specs.declared.choice.Before.{Before}

-- what a choice may name in each phase, by the sink and by what it is told; which starts it allows; and whether it wants to know whose turn it is in the order of EDK2's dispatchers
pub record Rules (S : Type 0) : Type 1 where
  pub peims : S → Before → Option ℕ → Type 0
  pub lets_in_pei : Before → ℕ → Bool
  pub drivers : S → Before → Option ℕ → Type 0
  pub lets_in_dxe : Before → ℕ → Bool
  pub wants_turn : Bool

-- the machine's own: it names no module, and allows each start
abbrev pub first_eligible_rules : {S : Type 0} → Rules S
first_eligible_rules = record {
  peims = λ sink before named. named ≡ None;
  lets_in_pei = λ before number. true;
  drivers = λ sink before named. named ≡ None;
  lets_in_dxe = λ before number. true;
  wants_turn = false;
}

-- a choice over a sink: its rules, and how the text and the failures of the sink are told
pub record Chooser (S : Type 0) : Type 1 where
  pub rules : Rules S
  pub text : S → Option (List ℕ)
  pub faults : S → ℕ

-- what it is told before a start: how many starts there were, and whose turn it is, if it wants to know
abbrev pub told_before : {S : Type 0} → Rules S → ℕ → Option ℕ → Before
told_before rules starts turn = record { starts = starts; turn = if rules.wants_turn then turn else None }

-- these lines were written into a sink, from the first on, without a failure
pub record HasPut {S : Type 0} (text : S → Option (List ℕ)) (faults : S → ℕ) (first : S) (lines : List Line) (sink : S) : Type 0 where
  pub put : Appends (text first) (text sink) (text_of lines)
  pub right : faults sink ≡ faults first

-- what may be named after these lines were written
pub record MayName {S : Type 0} (names : S → Option ℕ → Type 0) (text : S → Option (List ℕ)) (faults : S → ℕ) (first : S)
    (lines : List Line) (named : Option ℕ) : Type 0 where
  pub sink : S
  pub has : HasPut text faults first lines sink
  pub is : names sink named
