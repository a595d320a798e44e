-- How a boot that ran is answered.
use Rattle.std.proofs.Common.{◌≡◌, ℕ, true, List, Option, Some, None, Result, Ok, Err, is_some, option_map, refl, sym, inl, inr, subst, true≢false}
use Rattle.std.specs.Prelude.{⊤}
use Rattle.boot_plan.specs.declared.plan.Plan.{Plan}
use Rattle.mod_catalog.specs.{declared.catalogue.Catalog.Catalog, WellFormed.AreNumbered}
use Rattle.boot_model.specs.{declared.line.RunEnd.RunEnd, BootRun.dxe_result, declared.phase_end.DxeEnd.DxeEnd, DxeRun.dxe_end}
use Rattle.boot_model.specs.declared.line.RunEnd.TheVariants as E
use Rattle.boot_model.specs.{PeiMachine.PeiMachine, declared.phase_end.PeiEnd.PeiEnd, PeiRun.pei_end, PlanBoard.board_of}
use Rattle.boot_model.specs.declared.phase_end.PeiEnd.TheVariants.{Handoff, NoMemory, NoIpl, Spent, Deep}
use Rattle.store_model.specs.StoreState.{Board}
use Rattle.boot_laws.specs.RunsEnd.{PeiRunsEnd, DxeRunsEnd}
use Rattle.boot_core.specs.{declared.status.Status.Status, BootEnd.status_of, declared.whole.boot.Ran.Ran, declared.plan_boot.Booted.Booted}
use Rattle.boot_io.specs.{declared.halt.Halt.Halt, Halted.HaltsAfter}
use Rattle.boot_io.specs.declared.halt.Halt.TheVariants as H
use Rattle.boot_core.specs.WholeEnd.{end_after, end_of, boot_text}
use Rattle.boot_core.specs.Outcome.{Kind, OfAnswer, EndsBy, Ends, Answered, SinkFailed, Begun, BootOutcome, Trail, IsOfRun, kind_of}
use Rattle.boot_core.specs.Outcome as O
use Rattle.mem_store.specs.{declared.store.MemStore.MemStore, MemState.StandsFor}
use Rattle.boot_core.specs.declared.status.Status.TheVariants as V
use Rattle.boot_core.specs.Handing.{HandsBack, IsBooted, IsWhereRan, StandsWhere}
use Rattle.boot_core.specs.FirstBoot.{RunsTo}
use Rattle.boot_trace.specs.Printing.{Texts}

-- each boot has a result
mapped_end : (ended : Option DxeEnd) → is_some ended ≡ true → (end : RunEnd) × (option_map dxe_result ended ≡ Some end)
mapped_end None some = absurd (true≢false (sym some))
mapped_end (Some end) some = (dxe_result end, refl)

some_end : (catalog : Catalog) (fuel : ℕ) (m : PeiMachine) (ended : Option PeiEnd) → is_some ended ≡ true → is_some (dxe_end catalog fuel m.store m.actions).ended ≡ true → (end : RunEnd) × (end_after catalog fuel m ended ≡ Some end)
some_end catalog fuel m None some dxe = absurd (true≢false (sym some))
some_end catalog fuel m (Some Handoff) some dxe = mapped_end (dxe_end catalog fuel m.store m.actions).ended dxe
some_end catalog fuel m (Some NoMemory) some dxe = (E.NoMemory, refl)
some_end catalog fuel m (Some NoIpl) some dxe = (E.NoIpl, refl)
some_end catalog fuel m (Some Spent) some dxe = (E.Spent, refl)
some_end catalog fuel m (Some Deep) some dxe = (E.Deep, refl)

boot_ends : PeiRunsEnd → DxeRunsEnd → (board : Board) (catalog : Catalog) (fuel : ℕ) → AreNumbered 0 catalog.volumes → (end : RunEnd) × (end_of board catalog fuel ≡ Some end)
unfolding end_of
boot_ends pei dxe board catalog fuel numbered =
    let m = pei_end board catalog fuel in
    some_end catalog fuel m m.ended (pei board catalog fuel) (dxe catalog numbered fuel m.store m.actions)

-- a result is answered, and is no fault
pub answer_of : (end : RunEnd) → kind_of (status_of end) ≡ OfAnswer
answer_of E.Done = refl
answer_of E.NoMemory = refl
answer_of E.NoIpl = refl
answer_of E.Spent = refl
answer_of E.Deep = refl

-- and is a run's
ran_of : (end : RunEnd) → IsOfRun (status_of end)
ran_of E.Done = tt
ran_of E.NoMemory = tt
ran_of E.NoIpl = tt
ran_of E.Spent = tt
ran_of E.Deep = tt

-- what a call left that has no files
abbrev left_by : Option (List ℕ) → Option (List ℕ) → ℕ → ℕ → Trail
left_by old new sb sn = record { old = old; new = new; sink_before = sb; sink_now = sn; files_before = 0; files_now = 0; missed = None }

pub run_ends : PeiRunsEnd → DxeRunsEnd → (ran : Result (Ran MemStore) Halt) (plan : Plan) (catalog : Catalog) (images : List (List ℕ)) (booted : Booted) (old new : Option (List ℕ)) (sb sn : ℕ) → AreNumbered 0 catalog.volumes
    → IsBooted ran booted → RunsTo StandsFor (board_of plan catalog images) catalog plan.fuel (record { old = old; new = new }) ran → HaltsAfter ran sb sn
    → Ends (BootOutcome plan catalog images) (λ _. ⊥) ⊤ booted.status (record { old = old; new = new; sink_before = sb; sink_now = sn; files_before = 0; files_now = 0; missed = None })
run_ends pei dxe (Ok ran) plan catalog images booted old new sb sn numbered is told counted =
    let board = board_of plan catalog images in
    let end = ran.«end» in
    let t : Trail = left_by old new sb sn in
    let Out : Status → List ℕ → Type 0 = BootOutcome plan catalog images in
    let P : Kind → Type 0 = λ k. EndsBy k Out (λ _. ⊥) ⊤ (status_of end) t in
    let Q : Status → Type 0 = λ s. Ends Out (λ _. ⊥) ⊤ s t in
    let outcome : Out (status_of end) (boot_text board catalog plan.fuel) = record { end = end; ended = told.0.end_is; status_is = refl; text_is = refl } in
    let answered : Answered Out (status_of end) t = record { sink = counted; files = refl; text = boot_text board catalog plan.fuel; outcome = outcome; whole = told.1 } in
    subst Q (sym is.0) (subst P (sym (answer_of end)) answered)
run_ends pei dxe (Err H.Sink) plan catalog images booted old new sb sn numbered is told counted =
    let board = board_of plan catalog images in
    let t : Trail = left_by old new sb sn in
    let Out : Status → List ℕ → Type 0 = BootOutcome plan catalog images in
    let Q : Status → Type 0 = λ s. Ends Out (λ _. ⊥) ⊤ s t in
    let ends = boot_ends pei dxe board catalog plan.fuel numbered in
    let outcome : Out (status_of ends.0) (boot_text board catalog plan.fuel) = record { end = ends.0; ended = ends.1; status_is = refl; text_is = refl } in
    let failed : SinkFailed Out (λ _. ⊥) t = record { sink = counted.1; text = boot_text board catalog plan.fuel; cause = inl (status_of ends.0, outcome); part = told } in
    subst Q (sym is.0) failed
run_ends pei dxe (Err H.Memory) plan catalog images booted old new sb sn numbered is told counted =
    let board = board_of plan catalog images in
    let t : Trail = left_by old new sb sn in
    let Out : Status → List ℕ → Type 0 = BootOutcome plan catalog images in
    let Q : Status → Type 0 = λ s. Ends Out (λ _. ⊥) ⊤ s t in
    let ends = boot_ends pei dxe board catalog plan.fuel numbered in
    let outcome : Out (status_of ends.0) (boot_text board catalog plan.fuel) = record { end = ends.0; ended = ends.1; status_is = refl; text_is = refl } in
    let begun : Begun Out ⊤ old new = record { boots = tt; status = status_of ends.0; ran = ran_of ends.0; text = boot_text board catalog plan.fuel; outcome = outcome; part = told } in
    let wanting : O.NoMemory Out ⊤ t = record { sink = counted; files = refl; kept = inr begun } in
    subst Q (sym is.0) wanting

-- the store is handed back exactly behind the end of a run
where_of : (status : Status) (store : Option MemStore) (booted : Booted) → (booted.status ≡ status) × (booted.store ≡ store) → IsWhereRan status store → IsWhereRan booted.status booted.store
where_of status store booted is h = subst (λ s. IsWhereRan s booted.store) (sym is.0) (subst (IsWhereRan status) (sym is.1) h)

pub hands_back : (ran : Result (Ran MemStore) Halt) (plan : Plan) (catalog : Catalog) (images : List (List ℕ)) (booted : Booted) (t : Texts)
    → IsBooted ran booted → RunsTo StandsFor (board_of plan catalog images) catalog plan.fuel t ran → HandsBack plan catalog images booted
hands_back (Ok ran) plan catalog images booted t is told =
    let board = board_of plan catalog images in
    record {
      where_ran = where_of (status_of ran.«end») (Some ran.pei.store) booted is (ran_of ran.«end»);
      stands = subst (StandsWhere (pei_end board catalog plan.fuel).store) (sym is.1) told.0.left.store_is;
    }
hands_back (Err H.Sink) plan catalog images booted t is told =
    record { where_ran = where_of V.SinkFault None booted is (λ none. none); stands = subst (StandsWhere (pei_end (board_of plan catalog images) catalog plan.fuel).store) (sym is.1) tt }
hands_back (Err H.Memory) plan catalog images booted t is told =
    record { where_ran = where_of V.Memory None booted is (λ none. none); stands = subst (StandsWhere (pei_end (board_of plan catalog images) catalog plan.fuel).store) (sym is.1) tt }
