-- What is known of a run that was watched.
use Rattle.std.proofs.Common.{◌≡◌, ℕ, ◌-◌, arith, Bool, List, ◌∷◌, length, Option, None, Result, Ok, Err, refl, sym, subst, ◌∙◌}
use Rattle.boot_io.specs.declared.halt.Halt.{Halt}
use Rattle.mod_catalog.specs.declared.catalogue.Catalog.{Catalog}
use Rattle.store_model.specs.{HandleState.HandleState, StoreState.StoreState}
use Rattle.boot_model.specs.{declared.phase_end.DxeEnd.DxeEnd, DxeMachine.DxeMachine, DxeRun.dxe_opening, DxeStep.dxe_step}
use Rattle.boot_laws.specs.{declared.choice.Before.Before, declared.choice.Reached.Reached}
use Rattle.boot_laws.specs.DxeAim.{FirstEligibleMayStart, GroupsAreAimed}
use Rattle.boot_laws.specs.declared.choice.Reached.TheVariants as R
use Rattle.dxe_core.specs.Standing.{DxeCore, StandsFor}
use Rattle.dxe_dispatch.specs.Queue.{Discovers, IsNewQueue, Queue}
use Rattle.dxe_dispatch.specs.{declared.answer.Step.Step, Ends.IsNow, Turns.IsLeft, declared.boot.Left.Left, declared.passes.Agenda.Agenda}
use Rattle.dxe_dispatch.specs.declared.answer.Turn.TheVariants as T
use Rattle.dxe_dispatch.specs.Choices.{DriverChoice, DxeBoot, IsAimedBy, StopsShort, TurnsBy, came, leaves, told_last}
use Rattle.dxe_dispatch.specs.PassList.{IsPassListOf, PassList, turn_kept}
use Rattle.dxe_dispatch.specs.Passes.{queued, refilled, told_in_dxe}
use Rattle.dxe_dispatch.specs.Watched.{BootsKnown, DxeCourse, RunsKnown, StandsLeft, WasAimed, WasLast, WasStep}
use Rattle.dxe_dispatch.proofs.{Chosen.Any, Chosen.target_at, Targets.left_before}
use Rattle.dxe_dispatch.proofs.Following.{end_queue, lets_along, names_along, not_aimed_at, told_so}
use Rattle.dxe_dispatch.proofs.ChosenWays.{IsComing, coming_bars, coming_over, coming_to, opening_queue}

-- the target of a turn by choices, whoever chose
pub aimed_so : (Names : DxeMachine → Option ℕ → Type 0) (catalog : Catalog) (m target : DxeMachine) → m.ended ≡ None → IsAimedBy Names catalog m target → WasAimed catalog m target
aimed_so Names catalog m target running by = record { running = running; named = by.named; is = by.is }

-- a step by choices is this step
pub was_step : {M S : Type 0} (Names : List DxeMachine → DxeMachine → Option ℕ → Type 0) (Lets : List DxeMachine → DxeMachine → ℕ → Bool) (text : S → Option (List ℕ)) (faults : S → ℕ) (stands : M → StoreState → Type 0) (store : M) (catalog : Catalog) (fuel : ℕ)
    (opening : DxeMachine) (first : S) (turns : ℕ) (core later : DxeCore) (kept grown : Queue) (sink shown : S) (before evaluated now : ℕ) (step : Step)
    → (way : IsComing Names Lets text faults stands store catalog fuel opening first turns core kept sink before evaluated)
    → (by : TurnsBy (Names way.earlier) (Lets way.earlier) (IsNow stands store catalog later grown) (IsLeft stands store catalog later grown) catalog fuel (came catalog fuel opening way.earlier) (record { old = text sink; new = text shown }) evaluated now (Ok (T.Took step)))
    → WasStep catalog fuel (came catalog fuel opening way.earlier) by.target step
was_step Names Lets text faults stands store catalog fuel opening first turns core later kept grown sink shown before evaluated now step way by =
    record { aimed = aimed_so (Names way.earlier) catalog (came catalog fuel opening way.earlier) by.target way.on.now.machine.core.running by.aimed; step_is = by.turned.1 }

-- the core and the queue at the opening
pub opening_now : {M : Type 0} (stands : M → StoreState → Type 0) (store : M) (catalog : Catalog) (s : StoreState) (actions : ℕ) (core : DxeCore) (kept queue : Queue) (shown : List ℕ) → StandsFor stands store catalog core (dxe_opening catalog s actions)
    → IsNewQueue catalog kept → shown ≡ (dxe_opening catalog s actions).discovered → Discovers catalog kept shown queue → IsNow stands store catalog core queue (dxe_opening catalog s actions)
opening_now stands store catalog s actions core kept queue shown is new same discovers = record { machine = is; queue = opening_queue catalog kept queue shown s actions new same discovers }

-- how a turn has reached what it did: all targets, what the last turn was, and what stands now
pub record HasReached {M : Type 0} (stands : M → StoreState → Type 0) (store : M) (catalog : Catalog) (fuel : ℕ) (opening : DxeMachine) (earlier : List DxeMachine) (later : DxeCore) (grown : Queue) (reached : Reached DxeEnd) : Type 0 where
  pub all : List DxeMachine
  pub was : WasLast catalog fuel opening earlier all reached
  pub left : StandsLeft stands store catalog later grown (came catalog fuel opening all) reached

unfoldable pub has_reached : {M S : Type 0} (first_law : FirstEligibleMayStart) (Names : List DxeMachine → DxeMachine → Option ℕ → Type 0) (Lets : List DxeMachine → DxeMachine → ℕ → Bool) (text : S → Option (List ℕ)) (faults : S → ℕ) (stands : M → StoreState → Type 0) (store : M) (catalog : Catalog) (fuel : ℕ)
    (opening : DxeMachine) (first : S) (turns : ℕ) (core later : DxeCore) (kept grown : Queue) (sink shown : S) (before evaluated now : ℕ) (reached : Reached DxeEnd)
    → (way : IsComing Names Lets text faults stands store catalog fuel opening first turns core kept sink before evaluated)
    → TurnsBy (Names way.earlier) (Lets way.earlier) (IsNow stands store catalog later grown) (IsLeft stands store catalog later grown) catalog fuel (came catalog fuel opening way.earlier) (record { old = text sink; new = text shown }) evaluated now (Ok (T.Reached reached))
    → HasReached stands store catalog fuel opening way.earlier later grown reached
has_reached first_law Names Lets text faults stands store catalog fuel opening first turns core later kept grown sink shown before evaluated now (R.End how) way over =
    let m = came catalog fuel opening way.earlier in
    record {
      all = over.target ∷ way.earlier;
      was = (over.target, refl, record { aimed = aimed_so (Names way.earlier) catalog m over.target way.on.now.machine.core.running over.aimed; none = over.turned.none; handles = over.turned.handles; ended = over.turned.ended });
      left = over.turned.now;
    }
has_reached first_law Names Lets text faults stands store catalog fuel opening first turns core later kept grown sink shown before evaluated now (R.Barred number) way held =
    let m = came catalog fuel opening way.earlier in
    let running = way.on.now.machine.core.running in
    let is = target_at (Names way.earlier) catalog m held.target first_law running held.aimed in
    record {
      all = way.earlier;
      was = (refl, record { target = held.target; aimed = aimed_so (Names way.earlier) catalog m held.target running held.aimed; starting = held.turned.starting });
      left = left_before stands store catalog later grown m held.target Any is held.turned.left;
    }

-- the core stands for a machine there
pub stands_there : {M : Type 0} (stands : M → StoreState → Type 0) (store : M) (catalog : Catalog) (fuel : ℕ) (opening : DxeMachine) (earlier : List DxeMachine) (later : DxeCore) (grown : Queue) (reached : Reached DxeEnd)
    → HasReached stands store catalog fuel opening earlier later grown reached → (m : DxeMachine) × StandsFor stands store catalog later m
stands_there stands store catalog fuel opening earlier later grown (R.End how) has = (record (came catalog fuel opening has.all) { ended = None }, has.left.machine)
stands_there stands store catalog fuel opening earlier later grown (R.Barred number) has = (came catalog fuel opening has.all, has.left.machine)

-- what is kept says what the choice was told last, or would be at the end
pub says_told : {M S : Type 0} (first_law : FirstEligibleMayStart) (groups : GroupsAreAimed) (choice : DriverChoice S) (stands : M → StoreState → Type 0) (store : M) (catalog : Catalog) (fuel : ℕ)
    (opening : DxeMachine) (first : S) (turns : ℕ) (core later : DxeCore) (kept grown : Queue) (sink shown : S) (before evaluated now : ℕ) (passes : PassList) (reached : Reached DxeEnd)
    → (way : IsComing (names_along choice catalog fuel opening first) (lets_along choice catalog fuel opening) choice.by.text choice.by.faults stands store catalog fuel opening first turns core kept sink before evaluated)
    → (turned : TurnsBy (names_along choice catalog fuel opening first way.earlier) (lets_along choice catalog fuel opening way.earlier) (IsNow stands store catalog later grown) (IsLeft stands store catalog later grown) catalog fuel (came catalog fuel opening way.earlier) (record { old = choice.by.text sink; new = choice.by.text shown }) evaluated now (Ok (T.Reached reached)))
    → IsPassListOf catalog choice.by.rules.wants_turn (came catalog fuel opening way.earlier) (refilled catalog (came catalog fuel opening way.earlier) (queued catalog fuel opening way.earlier)) passes
    → told_last choice.in_pei grown.left (turn_kept passes) reached ≡ told_in_dxe choice catalog fuel opening
    (has_reached first_law (names_along choice catalog fuel opening first) (lets_along choice catalog fuel opening) choice.by.text choice.by.faults stands store catalog fuel opening first turns core later kept grown sink shown before evaluated now reached way turned).all
unfolding has_reached
says_told first_law groups choice stands store catalog fuel opening first turns core later kept grown sink shown before evaluated now passes (R.End how) way over is =
    let m = came catalog fuel opening way.earlier in
    let queue = queued catalog fuel opening way.earlier in
    let end = dxe_step catalog fuel over.target in
    let target = target_at (names_along choice catalog fuel opening first way.earlier) catalog m over.target first_law way.on.now.machine.core.running over.aimed in
    let same = end_queue catalog m over.target end queue (not_aimed_at catalog m over.target Any groups target over.turned.none) over.turned.still in
    told_so choice catalog end (queued catalog fuel opening (over.target ∷ way.earlier)) passes grown.left over.turned.now.queue.left is.wanted (λ w. is.left w ∙ sym same)
says_told first_law groups choice stands store catalog fuel opening first turns core later kept grown sink shown before evaluated now passes (R.Barred number) way held is =
    let m = came catalog fuel opening way.earlier in
    let target = target_at (names_along choice catalog fuel opening first way.earlier) catalog m held.target first_law way.on.now.machine.core.running held.aimed in
    let left = (left_before stands store catalog later grown m held.target Any target held.turned.left).left in
    let before_it : grown.left - 1 ≡ length m.started = omega (arith, left) in
    told_so choice catalog m (queued catalog fuel opening way.earlier) passes (grown.left - 1) before_it is.wanted is.left

-- the run that has reached it, of which this is known
pub reached_watched : {M S : Type 0} (first_law : FirstEligibleMayStart) (Names : List DxeMachine → DxeMachine → Option ℕ → Type 0) (Lets : List DxeMachine → DxeMachine → ℕ → Bool) (told : List DxeMachine → Before) (in_pei : ℕ) (text : S → Option (List ℕ)) (faults : S → ℕ) (stands : M → StoreState → Type 0) (store : M) (catalog : Catalog) (fuel : ℕ)
    (opening : DxeMachine) (first : S) (turns : ℕ) (core later : DxeCore) (kept : Queue) (grown : Agenda) (sink shown : S) (before evaluated now : ℕ) (Known : List DxeMachine → Reached DxeEnd → Type 0) (reached : Reached DxeEnd)
    → (way : IsComing Names Lets text faults stands store catalog fuel opening first turns core kept sink before evaluated)
    → (turned : TurnsBy (Names way.earlier) (Lets way.earlier) (IsNow stands store catalog later grown.queue) (IsLeft stands store catalog later grown.queue) catalog fuel (came catalog fuel opening way.earlier) (record { old = text sink; new = text shown }) evaluated now (Ok (T.Reached reached)))
    → told_last in_pei grown.queue.left (turn_kept grown.passes) reached ≡ told (has_reached first_law Names Lets text faults stands store catalog fuel opening first turns core later kept grown.queue sink shown before evaluated now reached way turned).all
    → Known (has_reached first_law Names Lets text faults stands store catalog fuel opening first turns core later kept grown.queue sink shown before evaluated now reached way turned).all reached
    → RunsKnown (record { names = Names; lets = Lets; told = told; in_pei = in_pei; stands = stands; store = store; catalog = catalog; fuel = fuel; opening = opening; later = later; old = text first; new = text shown }) grown Known (Ok reached)
unfolding has_reached coming_to coming_over coming_bars
reached_watched first_law Names Lets told in_pei text faults stands store catalog fuel opening first turns core later kept grown sink shown before evaluated now Known (R.End how) way turned says known =
    record { by = coming_to first_law Names Lets text faults stands store catalog fuel opening first turns core later kept grown.queue sink shown before evaluated now (R.End how) way turned; told = says; known = known }
reached_watched first_law Names Lets told in_pei text faults stands store catalog fuel opening first turns core later kept grown sink shown before evaluated now Known (R.Barred number) way turned says known =
    record { by = coming_to first_law Names Lets text faults stands store catalog fuel opening first turns core later kept grown.queue sink shown before evaluated now (R.Barred number) way turned; told = says; known = known }

-- a run that was given up, of which nothing is said
pub halts_watched : {M : Type 0} (c : DxeCourse M) (kept : Agenda) (Known : List DxeMachine → Reached DxeEnd → Type 0) (result : Result (Reached DxeEnd) Halt) (halt : Halt) → result ≡ Err halt
    → StopsShort c.names c.lets c.catalog c.fuel c.opening c.old c.new → RunsKnown c kept Known result
halts_watched c kept Known result halt e by = let P : Result (Reached DxeEnd) Halt → Type 0 = λ r. RunsKnown c kept Known r in subst P (sym e) (record { by = by; told = tt; known = tt })

-- the same of a whole run
pub boot_halts_watched : (b : DxeBoot) (Known : List DxeMachine → Reached DxeEnd → Type 0) (result : Result Left Halt) (halt : Halt) → result ≡ Err halt
    → StopsShort b.names b.lets b.catalog b.fuel b.opening b.old b.new → BootsKnown b Known result
boot_halts_watched b Known result halt e by = let P : Result Left Halt → Type 0 = λ r. BootsKnown b Known r in subst P (sym e) (record { by = by; known = tt })

-- the whole run, of which the same is known as of the run; the handles of the last machine are those of the core
pub boots_watched : {M : Type 0} (c : DxeCourse M) (kept : Agenda) (Known : List DxeMachine → Reached DxeEnd → Type 0) (reached : Reached DxeEnd) (handles : HandleState) (before : Before) → handles ≡ c.later.services.handles
    → before ≡ told_last c.in_pei kept.queue.left (turn_kept kept.passes) reached → RunsKnown c kept Known (Ok reached)
    → BootsKnown (record { names = c.names; lets = c.lets; told = c.told; catalog = c.catalog; fuel = c.fuel; opening = c.opening; old = c.old; new = c.new }) Known (Ok (leaves handles before reached))
boots_watched c kept Known (R.End how) handles before same is run = record {
  by = record { earlier = run.by.earlier; run = run.by.run; ended = run.by.ended; has = run.by.now.machine.core.services.handles ∙ sym same; before_is = is ∙ run.told };
  known = run.known;
}
boots_watched c kept Known (R.Barred number) handles before same is run = record {
  by = record { earlier = run.by.earlier; run = run.by.run; bars = run.by.bars; has = run.by.left.machine.core.services.handles ∙ sym same; before_is = is ∙ run.told };
  known = run.known;
}
