-- What every machine of a run of PEI has, over a well-formed catalogue and a board with its facts.
-- Its store has the facts of a store, its registers and sweeps are of what is there, and numbers in registers have 64 bits.
-- Own.
use Rattle.std.specs.Prelude.{ℕ, ◌<◌, ◌^◌, List, ⊤}
use Rattle.pi_base.specs.Lists.{Each}
use Rattle.mod_catalog.specs.{declared.catalogue.Catalog.Catalog, WellFormed.IsWellFormed}
use Rattle.store_model.specs.{StoreState.Board, StateFacts.IsBoard, StateFacts.IsStoreState}
use Rattle.boot_model.specs.{declared.frame.Register.Register, MachineFacts.IsSound, PeiMachine.PeiMachine, PeiStep.pei_step}
use Rattle.boot_model.specs.declared.frame.Register.TheVariants.{Empty, Number, PoolIn, DescriptorIn, HandleIn}
use Rattle.boot_model.specs.PeiRun.{pei_opening, pei_run}

-- a number in a register has 64 bits
abbrev pub IsFitting : Register → Type 0
IsFitting Empty = ⊤
IsFitting (Number n) = n < 2 ^ 64
IsFitting (PoolIn held) = ⊤
IsFitting (DescriptorIn d) = ⊤
IsFitting (HandleIn handle) = ⊤

abbrev pub FitRegisters : List Register → Type 0
FitRegisters registers = Each IsFitting registers

pub record HasFacts (m : PeiMachine) : Type 0 where
  pub store : IsStoreState m.store
  pub sound : IsSound m
  pub numbers : Each (λ frame. FitRegisters frame.registers) m.frames

abbrev pub OpeningHasFacts : Type 0
OpeningHasFacts = (catalog : Catalog) (board : Board) → IsBoard board → HasFacts (pei_opening board catalog)

abbrev pub StepHasFacts : Type 0
StepHasFacts =
    (catalog : Catalog) (fuel : ℕ) (m : PeiMachine) → IsWellFormed catalog → HasFacts m
    → HasFacts (pei_step catalog fuel m)

abbrev pub RunHasFacts : Type 0
RunHasFacts =
    (catalog : Catalog) (board : Board) → IsWellFormed catalog → IsBoard board
    → (fuel n : ℕ) → HasFacts (pei_run catalog fuel n (pei_opening board catalog))
