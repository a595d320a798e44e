-- The core at the opening behind a hand-off.
use Rattle.std.proofs.Common.{◌≡◌, ℕ, ◌≤◌, Bool, List, [], Option, Result, Ok, Err, refl, subst, arith, IfOk}
use Rattle.boot_trace.proofs.Lines.{part_none}
use Rattle.mod_catalog.specs.declared.catalogue.Catalog.{Catalog}
use Rattle.store_model.specs.{Service.Reading.fv_bases, HandleState.HandleState, StoreState.StoreState}
use Rattle.boot_model.specs.{Discovery.discoveries, DxeRun.dxe_opening, DxeRun.dxe_opening_of, declared.phase_end.DxeEnd.DxeEnd}
use Rattle.boot_model.specs.DxeMachine.{DxeMachine}
use Rattle.dxe_dispatch.specs.{Queue.Queue, Ends.IsOpened}
use Rattle.dxe_core.specs.Standing.{DxeCore, IsCoreOf, StandsFor}
use Rattle.dxe_dispatch.specs.Choices.{BarsBy, RunsBy, StopsShort, handles_of, leaves}
use Rattle.boot_laws.specs.{declared.choice.Before.Before, declared.choice.Reached.Reached}
use Rattle.boot_laws.specs.declared.choice.Reached.TheVariants as R

-- the volumes at the bases of the store's FV HOBs have just been discovered
pub stands_at_opening : {M : Type 0} (stands : M → StoreState → Type 0) (store : M) (catalog : Catalog) (core : DxeCore) (s : StoreState) (actions : ℕ) (bases : List ℕ) → stands store s → bases ≡ fv_bases s
    → IsCoreOf catalog core (dxe_opening_of catalog s actions (discoveries catalog [] bases)) → StandsFor stands store catalog core (dxe_opening catalog s actions)
stands_at_opening stands store catalog core s actions bases here are is =
    let P : List ℕ → Type 0 = λ found. IsCoreOf catalog core (dxe_opening_of catalog s actions (discoveries catalog [] found)) in
    record { store = here; core = subst P are is }

-- the same of a core that is made from the bases, where memory is not wanting
pub opened : {M E : Type 0} (stands : M → StoreState → Type 0) (store : M) (catalog : Catalog) (taken : ℕ) (bases : List ℕ) → ((s : StoreState) → stands store s → bases ≡ fv_bases s) → (result : Result DxeCore E)
    → IfOk result (λ core. (s : StoreState) → IsCoreOf catalog core (dxe_opening_of catalog s taken (discoveries catalog [] bases))) → IfOk result (IsOpened stands store catalog taken)
opened stands store catalog taken bases are (Ok core) is = λ s here. stands_at_opening stands store catalog core s taken bases here (are s here) (is s)
opened stands store catalog taken bases are (Err fault) is = tt

-- a driver that was not let has left it
pub some_left : {M : Type 0} (Names : List DxeMachine → DxeMachine → Option ℕ → Type 0) (Lets : List DxeMachine → DxeMachine → ℕ → Bool) (stands : M → StoreState → Type 0) (store : M) (catalog : Catalog) (fuel : ℕ) (opening : DxeMachine) (core : DxeCore) (reached : Reached DxeEnd) (old new : Option (List ℕ))
    (queue : Queue) → RunsBy Names Lets stands store catalog fuel opening core queue old new (Ok reached) → (number : ℕ) → reached ≡ R.Barred number → 1 ≤ queue.left
some_left Names Lets stands store catalog fuel opening core reached old new queue by number is =
    let bars : BarsBy Names Lets stands store catalog fuel opening core queue number old new = subst (λ r. RunsBy Names Lets stands store catalog fuel opening core queue old new (Ok r)) is by in
    let left = bars.left.left in
    omega (arith, left)

-- either way these handles are left
pub handles_are : (handles : HandleState) (before : Before) (reached : Reached DxeEnd) → handles_of (leaves handles before reached) ≡ handles
handles_are handles before (R.End how) = refl
handles_are handles before (R.Barred number) = refl

-- memory is wanting before anything ran
pub none_ran : (Names : List DxeMachine → DxeMachine → Option ℕ → Type 0) (Lets : List DxeMachine → DxeMachine → ℕ → Bool) (catalog : Catalog) (fuel : ℕ) (opening : DxeMachine) (old : Option (List ℕ)) → StopsShort Names Lets catalog fuel opening old old
none_ran Names Lets catalog fuel opening old = record { earlier = []; run = tt; part = part_none old _ }
