-- Which GUIDs are installed changes in a step of PEI only for those of the step's event.
-- Those that a successful call puts in are there after it.
-- Own.
use Rattle.std.specs.Prelude.{◌≡◌, ℕ, Bool, true, false, List, ◌++◌, option_to_list}
use Rattle.std.specs.List.{list_any}
use Rattle.pi_base.specs.{declared.guid.Guid.Guid, Guids.same_guid, Lists.Each}
use Rattle.mod_catalog.specs.declared.catalogue.Catalog.{Catalog}
use Rattle.store_model.specs.{StateFacts.IsStoreState, Service.Install.has_ppi}
use Rattle.boot_model.specs.{PeiMachine.PeiMachine, PeiStep.pei_step, EvaluationBound.each_once, EvaluationBound.pei_guids}
use Rattle.boot_model.specs.{EventGuids.pei_placed, EventGuids.pei_taken, MachineFacts.HoldRegisters}

-- whether the GUID is one of these
abbrev pub is_among : Guid → List Guid → Bool
is_among guid guids = list_any (λ other. same_guid other guid) guids

-- a machine whose store has the facts of a store, and whose frames hold what is there
pub record IsKept (m : PeiMachine) : Type 0 where
  pub facts : IsStoreState m.store
  pub held : Each (λ frame. HoldRegisters frame.registers m.store) m.frames

-- any other GUID is installed after the step exactly when it was
abbrev pub GuidsChange : Type 0
GuidsChange =
    (catalog : Catalog) (fuel : ℕ) (m : PeiMachine) (guid : Guid) → IsKept m
    → is_among guid (pei_guids catalog fuel m) ≡ false → has_ppi (pei_step catalog fuel m).store guid ≡ has_ppi m.store guid

-- those that are added are installed after it
abbrev pub GuidsAreThere : Type 0
GuidsAreThere =
    (catalog : Catalog) (fuel : ℕ) (m : PeiMachine) → IsKept m
    → Each (λ guid. has_ppi (pei_step catalog fuel m).store guid ≡ true) (pei_placed catalog fuel m)

-- the GUIDs of an event are these, each once
abbrev pub GuidsAreThese : Type 0
GuidsAreThese =
    (catalog : Catalog) (fuel : ℕ) (m : PeiMachine)
    → pei_guids catalog fuel m ≡ each_once (option_to_list (pei_taken catalog fuel m) ++ pei_placed catalog fuel m)
