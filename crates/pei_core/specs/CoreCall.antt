-- A call of the core: the core before it and after it, the lines that it printed, and the volumes that it reported. Own.
use Rattle.std.specs.Prelude.{ℕ, List, length, drop, ◌-◌}
use Rattle.boot_model.specs.PeiMachine.{PeiMachine}
use Rattle.boot_trace.specs.Printing.{ArePut, ArePutInPart, Texts}
use Rattle.pei_core.specs.declared.pei.Pei.{Pei}

-- the core before a call and after it, and the sink's text before the call and after it
pub record CoreCall (M : Type 0) : Type 0 where
  pub pei : Pei M
  pub later : Pei M
  pub texts : Texts

-- the lines that a later machine has in addition to this one's were printed
abbrev pub Printed : PeiMachine → PeiMachine → Texts → Type 0
Printed m later t = ArePut m.lines later.lines t

-- a part of their text was written
abbrev pub PrintedPart : PeiMachine → PeiMachine → Texts → Type 0
PrintedPart m later t = ArePutInPart m.lines later.lines t

-- the last ones of some volumes, so many
abbrev pub last_volumes : ℕ → List ℕ → List ℕ
last_volumes count volumes = drop (length volumes - count) volumes
