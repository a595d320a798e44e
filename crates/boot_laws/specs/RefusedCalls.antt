-- A call of a PEI script that is refused changes no HOB, PPI, notification or queued pair, no register, and nothing else of the machine. The action is counted,
-- the call's line is printed with its status alone, and the script continues after it with that status. PI 1.8, volume 1, "PEI Services": what a service's
-- status codes leave.
use Rattle.std.specs.Prelude.{◌≡◌, ◌≢◌, ℕ, ◌+◌, false, true, List, [], ◌∷◌, ◌++◌, nat_le, ⊤}
use Rattle.pi_base.specs.{declared.word.Word.Word, declared.word.Word.TheVariants.Success, declared.word.Word.TheVariants.AlreadyStarted}
use Rattle.mod_catalog.specs.{declared.catalogue.Catalog.Catalog, Parts.has_number}
use Rattle.store_model.specs.StoreState.{StoreState}
use Rattle.boot_model.specs.{declared.line.CallName.CallName, PeiMachine.PeiMachine, PeiMachine.Frame}
use Rattle.boot_model.specs.declared.line.CallName.TheVariants as C
use Rattle.boot_model.specs.declared.line.Extra.TheVariants as X
use Rattle.boot_model.specs.declared.line.Line.TheVariants as L
use Rattle.boot_model.specs.PeiAction.{Effect, Wrote, Called, Own, Shadowed, Logged, Skipped, Returned, effect}
use Rattle.boot_model.specs.PeiStep.{Acts, case_of, pei_step, action_at, past}

-- the store has what it had
pub record HasStoreOf (old new : StoreState) : Type 0 where
  pub hobs : new.hobs ≡ old.hobs
  pub ppis : new.ppis ≡ old.ppis
  pub callbacks : new.callbacks ≡ old.callbacks
  pub dispatches : new.dispatches ≡ old.dispatches
  pub queue : new.pendings ≡ old.pendings
  pub others : new ≡ old

-- what a refused call leaves, of a machine whose top frame called
pub record IsRefusedCall (old : PeiMachine) (frame : Frame) (below : List Frame) (name : CallName) (status : Word)
    (new : PeiMachine) : Type 0 where
  pub store : HasStoreOf old.store new.store
  pub volumes : new.reported ≡ old.reported
  pub starts : (new.started ≡ old.started) × (new.shadows ≡ old.shadows) × (new.again ≡ old.again) × (new.cursor ≡ old.cursor)
  pub sweep : new.core_sweep ≡ old.core_sweep
  pub registers : new.frames ≡ record (past frame 0) { registers = frame.registers; last = status } ∷ below
  pub counted : new.actions ≡ old.actions + 1
  pub line : new.lines ≡ old.lines ++ L.Call name status X.Nothing ∷ []
  pub goes_on : new.ended ≡ old.ended

-- the machine after a refused call, by what the action does: a call of the store is refused by another status than Success, and a registration for shadow if
-- the module has registered
abbrev pub LeavesIfRefused : PeiMachine → Frame → List Frame → Effect → PeiMachine → Type 0
LeavesIfRefused old frame below (Called name reply) new = reply.status ≢ Success → IsRefusedCall old frame below name reply.status new
LeavesIfRefused old frame below (Own Shadowed) new =
    has_number old.shadows frame.module_number ≡ true → IsRefusedCall old frame below C.Shadow AlreadyStarted new
LeavesIfRefused old frame below (Wrote registers status) new = ⊤
LeavesIfRefused old frame below (Logged text) new = ⊤
LeavesIfRefused old frame below (Skipped n) new = ⊤
LeavesIfRefused old frame below (Returned status) new = ⊤

-- of each step in which a script takes an action, as long as there is fuel
abbrev pub RefusedPeiCallsChangeNothing : Type 0
RefusedPeiCallsChangeNothing =
    (catalog : Catalog) (fuel : ℕ) (m : PeiMachine) (frame : Frame) (below : List Frame)
    → case_of catalog m ≡ Acts frame below → nat_le fuel m.actions ≡ false
    → LeavesIfRefused m frame below (effect m.store frame (action_at catalog frame)) (pei_step catalog fuel m)
