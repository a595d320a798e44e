-- What follows PEI in a boot by choices, by its answer: it has come to the last line, to the start of a driver that is not let, or was given up.
-- Own.
use Rattle.std.specs.Prelude.{◌≡◌, ℕ, List, ◌++◌, Option, Result, Ok, Err}
use Rattle.std.specs.Io.KnownBytes.{Appends}
use Rattle.boot_io.specs.declared.halt.Halt.{Halt}
use Rattle.mod_catalog.specs.declared.catalogue.Catalog.{Catalog}
use Rattle.boot_model.specs.{declared.line.Line.Line, declared.phase_end.PeiEnd.PeiEnd, declared.phase_end.PeiEnd.TheVariants.Handoff}
use Rattle.boot_model.specs.{PeiMachine.PeiMachine, Text.text_of}
use Rattle.pei_dispatch.specs.declared.boot.Ended.{Ended}
use Rattle.boot_core.specs.{declared.whole.behind.Behind.Behind, declared.whole.behind.Last.Last}
use Rattle.boot_core.specs.declared.whole.behind.Behind.TheVariants.{Closed, Barred}
use Rattle.boot_core.specs.{declared.whole.boot.Booted.Booted, Choices.Choices, Closing.closing}
use Rattle.boot_core.specs.declared.whole.boot.Booted.TheVariants as B
use Rattle.boot_core.specs.ByChoice.{BarsInDxe, Ending, EndsAfter, StopsBehind, before_by}

-- what the boot came to, by what came behind its PEI
abbrev pub left_by : {M : Type 0} → Ended M → Behind → Booted M
left_by pei (Closed last) = B.Ended (record { «end» = last.«end»; pei = pei; handles = last.handles; before = last.before })
left_by pei (Barred barred) = B.BarredInDxe pei barred

-- the end that a boot leaves so behind this machine of PEI
abbrev pub ending_at : Choices → Catalog → ℕ → PeiMachine → List Line → Last → Ending
ending_at by catalog fuel pei lines last =
    record { by = by; catalog = catalog; fuel = fuel; pei = pei; lines = lines; handles = last.handles; result = last.«end» }

-- it has come to its last line, and all lines of the boot were put
pub record HasClosed (by : Choices) (catalog : Catalog) (fuel : ℕ) (pei : PeiMachine) (how : PeiEnd) (last : Last) (old new : Option (List ℕ)) : Type 0 where
  pub lines : List Line
  pub ends : EndsAfter by catalog fuel pei how lines last.handles last.«end»
  pub before_is : last.before ≡ before_by (ending_at by catalog fuel pei lines last) how ends
  pub text : Appends old new (text_of (lines ++ closing pei.store last.handles last.«end»))

-- what it came to
abbrev pub HasComeBehind : Choices → Catalog → ℕ → PeiMachine → PeiEnd → Option (List ℕ) → Option (List ℕ) → Behind → Type 0
HasComeBehind by catalog fuel pei how old new (Closed last) = HasClosed by catalog fuel pei how last old new
HasComeBehind by catalog fuel pei how old new (Barred barred) = (how ≡ Handoff) × BarsInDxe by catalog fuel pei barred old new

-- by its answer
abbrev pub ComesBehind : {S : Type 0} → Choices → (S → Option (List ℕ)) → (S → ℕ)
    → Catalog → ℕ → PeiMachine → PeiEnd → S → S → Result Behind Halt → Type 0
ComesBehind by text faults catalog fuel pei how first shown (Ok behind) = HasComeBehind by catalog fuel pei how (text first) (text shown) behind
ComesBehind by text faults catalog fuel pei how first shown (Err halt) = StopsBehind by text faults catalog fuel pei how first shown
