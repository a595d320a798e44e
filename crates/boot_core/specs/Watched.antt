-- A call of a boot by a choice that is watched: what it answers, and what the watchers know of that very boot.
-- Own.
use Rattle.std.specs.Prelude.{◌≡◌, ℕ, Bool, List, Result, Ok, Err, ⊤}
use Rattle.boot_io.specs.declared.halt.Halt.{Halt}
use Rattle.mod_catalog.specs.declared.catalogue.Catalog.{Catalog}
use Rattle.store_model.specs.StoreState.{Board, StoreState, empty_store}
use Rattle.boot_model.specs.{declared.phase_end.DxeEnd.DxeEnd, declared.phase_end.PeiEnd.PeiEnd, DxeMachine.DxeMachine, DxeRun.dxe_opening}
use Rattle.boot_model.specs.{PeiMachine.PeiMachine, PeiRun.pei_opening}
use Rattle.boot_model.specs.declared.phase_end.PeiEnd.TheVariants.{Handoff, NoMemory, NoIpl, Spent, Deep}
use Rattle.boot_laws.specs.{declared.choice.Reached.Reached, Naming.Chooser, Naming.HasPut}
use Rattle.boot_laws.specs.declared.choice.Reached.TheVariants as R
use Rattle.pei_dispatch.specs.{declared.boot.Ended.Ended, Ends.IsLeft}
use Rattle.pei_dispatch.specs.Choices.{HasBooted, LetsPeims, NamesPeims}
use Rattle.boot_core.specs.declared.whole.behind.Behind.{Behind}
use Rattle.boot_core.specs.declared.whole.behind.Behind.TheVariants.{Closed, Barred}
use Rattle.boot_core.specs.{declared.whole.boot.Booted.Booted, Behind.ComesBehind, Behind.ending_at, Choices.choices_of}
use Rattle.boot_core.specs.declared.whole.boot.Booted.TheVariants as B
use Rattle.boot_core.specs.ByChoice.{BootsTo, Ending, IsEnding, ending_of}

-- what is known of a run of PEI, by its last machine and those before it; and of one of DXE, by its opening and the machines from which its steps were taken
abbrev pub OfPei : Type 1
OfPei = Catalog → ℕ → List PeiMachine → PeiMachine → Reached PeiEnd → Type 0

abbrev pub OfDxe : Type 1
OfDxe = Catalog → ℕ → DxeMachine → List DxeMachine → Reached DxeEnd → Type 0

-- what the two watchers of a boot know
pub record Knowing : Type 1 where
  pub pei : OfPei
  pub dxe : OfDxe

-- of a DXE behind this machine of PEI
abbrev pub knows_dxe : OfDxe → Catalog → ℕ → PeiMachine → List DxeMachine → Reached DxeEnd → Type 0
knows_dxe Knows catalog fuel pei earlier reached = Knows catalog fuel (dxe_opening catalog pei.store pei.actions) earlier reached

-- a call that boots by a choice, or a part of it: over stores that stand so for states and may take memory, of a catalogue, with this fuel, and with the sink before it and behind it
pub record BootCall (M S : Type 0) : Type 1 where
  pub by : Chooser S
  pub stands : M → StoreState → Type 0
  pub takes : Bool
  pub catalog : Catalog
  pub fuel : ℕ
  pub sink : S
  pub shown : S

-- of what followed a PEI that has ended so: nothing where no DXE did
abbrev pub KnowsAfter : (Knows : OfDxe) (e : Ending) (how : PeiEnd) → IsEnding e how → Type 0
KnowsAfter Knows e Handoff ends = knows_dxe Knows e.catalog e.fuel e.pei ends.comes.earlier (R.End ends.how)
KnowsAfter Knows e NoMemory ends = ⊤
KnowsAfter Knows e NoIpl ends = ⊤
KnowsAfter Knows e Spent ends = ⊤
KnowsAfter Knows e Deep ends = ⊤

-- what came behind this machine of PEI in a boot from a first sink on
abbrev pub ComesIn : {M S : Type 0} → BootCall M S → PeiMachine → PeiEnd → S → Result Behind Halt → Type 0
ComesIn call pei how first result = ComesBehind (choices_of call.by call.catalog call.fuel first) call.by.text call.by.faults call.catalog call.fuel pei how first call.shown result

-- what is known of it, by its answer: nothing where it was given up
abbrev pub KnowsBehind : {M S : Type 0} (Knows : OfDxe) (call : BootCall M S) (pei : PeiMachine) (how : PeiEnd) (first : S) (result : Result Behind Halt)
    → ComesIn call pei how first result → Type 0
KnowsBehind Knows call pei how first (Ok (Closed last)) has =
    KnowsAfter Knows (ending_at (choices_of call.by call.catalog call.fuel first) call.catalog call.fuel pei has.lines last) how has.ends
KnowsBehind Knows call pei how first (Ok (Barred barred)) has = knows_dxe Knows call.catalog call.fuel pei has.1.comes.earlier (R.Barred barred.number)
KnowsBehind Knows call pei how first (Err halt) has = ⊤

-- what a boot over a board came to from a first sink on
abbrev pub BootsIn : {M S : Type 0} → BootCall M S → Board → S → Result (Booted M) Halt → Type 0
BootsIn call board first result =
    BootsTo (choices_of call.by call.catalog call.fuel first) call.by.text call.by.faults call.stands call.takes board call.catalog call.fuel first call.shown result

-- what is known of it, by its answer: nothing where it was given up
abbrev pub KnowsBoot : {M S : Type 0} (w : Knowing) (call : BootCall M S) (board : Board) (first : S) (result : Result (Booted M) Halt)
    → BootsIn call board first result → Type 0
KnowsBoot w call board first (Ok (B.Ended ran)) has =
    w.pei call.catalog call.fuel has.boot.comes.earlier has.boot.pei (R.End has.boot.how) × KnowsAfter w.dxe (ending_of has.boot) has.boot.how has.boot.ends
KnowsBoot w call board first (Ok (B.BarredInPei barred)) has = w.pei call.catalog call.fuel has.comes.earlier has.m (R.Barred barred.number)
KnowsBoot w call board first (Ok (B.BarredInDxe left barred)) has =
    w.pei call.catalog call.fuel has.comes.earlier has.pei (R.End Handoff)
    × knows_dxe w.dxe call.catalog call.fuel has.pei has.bars.comes.earlier (R.Barred barred.number)
KnowsBoot w call board first (Err halt) has = ⊤

-- what came behind this machine of PEI in a boot from a first sink on, and what is known of that
pub record ComesKnown {M S : Type 0} (Knows : OfDxe) (call : BootCall M S) (pei : PeiMachine) (how : PeiEnd) (first : S) (result : Result Behind Halt) : Type 0 where
  pub by : ComesIn call pei how first result
  pub known : KnowsBehind Knows call pei how first result by

-- so behind each machine in which PEI may have ended so and left this, and whose lines were put
abbrev pub BootsBehind : {M S : Type 0} → OfDxe → BootCall M S → Ended M → PeiEnd → Result Behind Halt → Type 0
BootsBehind {S = S} Knows call left how result =
    (pei : PeiMachine) (first : S) → IsLeft call.stands call.catalog pei left → HasPut call.by.text call.by.faults first pei.lines call.sink
    → ComesKnown Knows call pei how first result

-- what a boot over a board came to from a first sink on, and what is known of that
pub record BootsKnown {M S : Type 0} (w : Knowing) (call : BootCall M S) (board : Board) (first : S) (result : Result (Booted M) Halt) : Type 0 where
  pub by : BootsIn call board first result
  pub known : KnowsBoot w call board first result by

-- so behind each PEI that has ended and left this, whose lines were put without a failure, and of which its watcher knows
abbrev pub GoesOn : {M S : Type 0} → Knowing → BootCall M S → Ended M → Result (Booted M) Halt → Type 0
GoesOn {S = S} w call left result =
    (board : Board) (first : S)
    → (pei : HasBooted (NamesPeims call.by call.catalog first) (LetsPeims call.by.rules call.catalog) call.stands call.catalog call.fuel
    (pei_opening board call.catalog) left (call.by.text first) (call.by.text call.sink))
    → w.pei call.catalog call.fuel pei.comes.earlier pei.«end» (R.End left.«end») → call.by.faults call.sink ≡ call.by.faults first
    → BootsKnown w call board first result

-- by a choice that looks into the sink, over each board for which the store stands as it was made
abbrev pub BootsByChoice : {M S : Type 0} → Knowing → BootCall M S → M → Result (Booted M) Halt → Type 0
BootsByChoice w call store result = (board : Board) → call.stands store (empty_store board) → BootsKnown w call board call.sink result
