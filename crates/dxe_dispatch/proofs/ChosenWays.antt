-- The run by choices so far.
use Rattle.std.specs.{Bool.⊤, Io.KnownBytes.Appends}
use Rattle.std.proofs.Common.{◌≡◌, ◌⊎◌, ◌≤◌, ◌<◌, ℕ, ◌+◌, arith, Bool, false, inl, inr, List, [], ◌∷◌, ◌++◌, Option, Ok, Err, refl, sym, ap, ◌∙◌, subst, is_some, length, append-nil}
use Rattle.boot_io.proofs.PutsLaws.{appends_then, part_then}
use Rattle.boot_io.specs.{Sink.AppendsPart, declared.halt.Halt.Halt}
use Rattle.mod_catalog.specs.{declared.catalogue.Catalog.Catalog, WellFormed.IsWellFormed}
use Rattle.store_model.specs.{HandleState.no_handles, StoreState.StoreState}
use Rattle.boot_model.specs.{declared.line.Line.Line, declared.phase_end.DxeEnd.DxeEnd, Discovery.discovery_lines, DxeMachine.DxeMachine}
use Rattle.boot_model.specs.DxeChoice.{a_priori_drivers, discovered_order, drivers_of}
use Rattle.boot_model.specs.{DxeRun.dxe_bound, DxeRun.dxe_opening, DxeStep.dxe_step, Licence.AllDiffer, Text.text_of}
use Rattle.boot_model.proofs.Texts.{text_of-append}
use Rattle.boot_trace.proofs.Lines.{part_none, part_whole}
use Rattle.boot_laws.specs.{UnrequestedDrivers.UnrequestedDriversWait, declared.choice.Reached.Reached, DxeAim.FirstEligibleMayStart}
use Rattle.dxe_core.specs.Order.{Drivers, IsOrderOf}
use Rattle.dxe_dispatch.specs.Queue.{AreNew, Discovers, HasVolumes, IsNewQueue, IsQueueOf, Queue, owed}
use Rattle.dxe_core.specs.Standing.{DxeCore, IsCoreOf, IsFor, StandsFor}
use Rattle.boot_laws.specs.DxeUnderWay.{DxeHasEnded, DxeOpensUnderWay, steps_left}
use Rattle.boot_laws.specs.declared.choice.Reached.TheVariants as R
use Rattle.boot_laws.specs.Naming.{HasPut}
use Rattle.dxe_dispatch.specs.Choices.{BarsBy, EndsBy, EvaluatesFewBy, IsOnWay, IsRunBy, RunsBy, StopsShort, TurnsBy, came, changes_of}
use Rattle.dxe_dispatch.specs.{Ends.IsNow, declared.answer.Step.Step}
use Rattle.dxe_dispatch.specs.declared.answer.Turn.TheVariants as T
use Rattle.dxe_dispatch.specs.Turns.{IsGivenUp, IsLeft, EvaluatesWithin}
use Rattle.dxe_dispatch.proofs.Chosen.{Any, StepLaws, TakesFew, few_by, few_started, nearer_by, same_discovered, same_lines, target_at, waits_behind}
use Rattle.dxe_dispatch.proofs.Targets.{left_before}

-- the lines of the target are those of the machine
pub from_target : (m target later : DxeMachine) (told : List Line) → target.lines ≡ m.lines → later.lines ≡ target.lines ++ told → later.lines ≡ m.lines ++ told
from_target m target later told same lines = lines ∙ ap (λ xs. xs ++ told) same

-- the text with what a step printed
pub text_more : (m later : DxeMachine) (told : List Line) (old mid new : Option (List ℕ)) → later.lines ≡ m.lines ++ told → Appends old mid (text_of m.lines) → Appends mid new (text_of told) → Appends old new (text_of later.lines)
text_more m later told old mid new lines f g =
    let P : List ℕ → Type 0 = λ text. Appends old new text in
    subst P (sym (ap text_of lines ∙ text_of-append m.lines told)) (appends_then old mid new (text_of m.lines) (text_of told) f g)

-- the text where nothing was put
pub text_still : (bytes : List ℕ) (old mid new : Option (List ℕ)) → Appends old mid bytes → Appends mid new [] → Appends old new bytes
text_still bytes old mid new f g = subst (Appends old new) (append-nil bytes) (appends_then old mid new bytes [] f g)

-- the text with a part of what a step printed
part_more : (m later : DxeMachine) (told : List Line) (old mid new : Option (List ℕ)) → later.lines ≡ m.lines ++ told → Appends old mid (text_of m.lines) → AppendsPart mid new (text_of told) → AppendsPart old new (text_of later.lines)
part_more m later told old mid new lines f g =
    let P : List ℕ → Type 0 = λ bytes. AppendsPart old new bytes in
    subst P (sym (ap text_of lines ∙ text_of-append m.lines told)) (part_then old mid new (text_of m.lines) (text_of told) f g)

-- what was evaluated up to a machine of the run, or has to be
abbrev pub FewBy : Catalog → ℕ → DxeMachine → List DxeMachine → ℕ → ℕ → Type 0
FewBy catalog fuel opening earlier before now = now ≤ before + (length (discovered_order catalog (came catalog fuel opening earlier)) + changes_of catalog fuel earlier)

-- a machine of the run that has so many turns behind it, with the lines up to it
pub record IsComing {M S : Type 0} (Names : List DxeMachine → DxeMachine → Option ℕ → Type 0) (Lets : List DxeMachine → DxeMachine → ℕ → Bool) (text : S → Option (List ℕ)) (faults : S → ℕ) (stands : M → StoreState → Type 0) (store : M) (catalog : Catalog) (fuel : ℕ)
    (opening : DxeMachine) (first : S) (turns : ℕ) (core : DxeCore) (kept : Queue) (sink : S) (before evaluated : ℕ) : Type 0 where
  pub earlier : List DxeMachine
  pub run : IsRunBy Names Lets catalog fuel opening earlier
  pub on : IsOnWay stands store catalog core kept (came catalog fuel opening earlier)
  pub has : HasPut text faults first (came catalog fuel opening earlier).lines sink
  pub few : TakesFew fuel opening (came catalog fuel opening earlier)
  pub left : steps_left catalog fuel (came catalog fuel opening earlier) + turns ≤ dxe_bound catalog fuel
  pub counted : FewBy catalog fuel opening earlier before evaluated

pub few_on : (catalog : Catalog) (fuel : ℕ) (opening : DxeMachine) (earlier : List DxeMachine) (target : DxeMachine) (before evaluated now : ℕ) → target.discovered ≡ (came catalog fuel opening earlier).discovered
    → FewBy catalog fuel opening earlier before evaluated → EvaluatesWithin catalog fuel target evaluated now → FewBy catalog fuel opening (target ∷ earlier) before now
few_on catalog fuel opening earlier target before evaluated now same few within =
    sums before evaluated now _ _ _ _ _ (ap (λ xs. length (drivers_of catalog xs)) same) few within
  where
    sums : (before evaluated now here there by_step old target : ℕ) → target ≡ here → evaluated ≤ before + (here + old) → now + target ≤ evaluated + (there + by_step) → now ≤ before + (there + (by_step + old))
    sums before evaluated now here there by_step old target same few within = omega (arith, same, few, within)

-- one turn more
unfoldable pub coming_on : {M S : Type 0} (laws : StepLaws) (Names : List DxeMachine → DxeMachine → Option ℕ → Type 0) (Lets : List DxeMachine → DxeMachine → ℕ → Bool) (text : S → Option (List ℕ)) (faults : S → ℕ) (stands : M → StoreState → Type 0) (store : M) (catalog : Catalog) (fuel : ℕ)
    (opening : DxeMachine) (first : S) (turns : ℕ) (core later : DxeCore) (kept grown : Queue) (sink shown : S) (before evaluated now : ℕ) (step : Step) → IsWellFormed catalog
    → (way : IsComing Names Lets text faults stands store catalog fuel opening first turns core kept sink before evaluated)
    → TurnsBy (Names way.earlier) (Lets way.earlier) (IsNow stands store catalog later grown) (IsLeft stands store catalog later grown) catalog fuel (came catalog fuel opening way.earlier) (record { old = text sink; new = text shown }) evaluated now (Ok (T.Took step)) → faults shown ≡ faults sink
    → IsComing Names Lets text faults stands store catalog fuel opening first (turns + 1) later grown shown before now
coming_on laws Names Lets text faults stands store catalog fuel opening first turns core later kept grown sink shown before evaluated now step well way by same =
    let m = came catalog fuel opening way.earlier in
    let next = dxe_step catalog fuel by.target in
    let going = way.on.now.machine.core.running in
    let is = target_at (Names way.earlier) catalog m by.target laws.first going by.aimed in
    let near = nearer_by laws catalog fuel m by.target Any well going way.on.way is in
    let less = near.less in
    let left = way.left in
    record {
      earlier = by.target ∷ way.earlier;
      run = (by.aimed, by.turned.0.passes, going, way.run);
      on = record { now = by.turned.0.now; way = near.way; waits = waits_behind laws.groups catalog fuel m by.target Any well way.on.way way.on.waits is };
      has = record {
        put = text_more m next by.turned.0.printed.told (text first) (text sink) (text shown) (from_target m by.target next by.turned.0.printed.told (same_lines catalog m by.target Any is) by.turned.0.printed.lines) way.has.put by.turned.0.printed.text;
        right = same ∙ way.has.right;
      };
      few = λ most bound few. few_by catalog fuel m by.target Any is most bound (way.few most bound few);
      left = omega (arith, less, left);
      counted = few_on catalog fuel opening way.earlier by.target before evaluated now (same_discovered catalog m by.target Any is) way.counted by.few;
    }

-- the turn that ends it
unfoldable pub coming_over : {M S : Type 0} (first_law : FirstEligibleMayStart) (Names : List DxeMachine → DxeMachine → Option ℕ → Type 0) (Lets : List DxeMachine → DxeMachine → ℕ → Bool) (text : S → Option (List ℕ)) (faults : S → ℕ) (stands : M → StoreState → Type 0) (store : M) (catalog : Catalog) (fuel : ℕ)
    (opening : DxeMachine) (first : S) (turns : ℕ) (core later : DxeCore) (kept grown : Queue) (sink shown : S) (before evaluated now : ℕ) (how : DxeEnd)
    → (way : IsComing Names Lets text faults stands store catalog fuel opening first turns core kept sink before evaluated)
    → TurnsBy (Names way.earlier) (Lets way.earlier) (IsNow stands store catalog later grown) (IsLeft stands store catalog later grown) catalog fuel (came catalog fuel opening way.earlier) (record { old = text sink; new = text shown }) evaluated now (Ok (T.Reached (R.End how)))
    → EndsBy Names Lets stands store catalog fuel opening later grown how (text first) (text shown)
coming_over first_law Names Lets text faults stands store catalog fuel opening first turns core later kept grown sink shown before evaluated now how way over =
    let m = came catalog fuel opening way.earlier in
    let end = dxe_step catalog fuel over.target in
    let running = way.on.now.machine.core.running in
    let same = same_lines catalog m over.target Any (target_at (Names way.earlier) catalog m over.target first_law running over.aimed) in
    let printed = over.turned.printed in
    record {
      earlier = over.target ∷ way.earlier;
      run = (over.aimed, over.turned.passes, running, way.run);
      ended = record {
        ended = over.turned.ended;
        text = text_more m end printed.told (text first) (text sink) (text shown) (from_target m over.target end printed.told same printed.lines) way.has.put printed.text;
      };
      now = over.turned.now;
    }

-- the turn before which it is left, since a driver is not let
unfoldable pub coming_bars : {M S : Type 0} (first_law : FirstEligibleMayStart) (Names : List DxeMachine → DxeMachine → Option ℕ → Type 0) (Lets : List DxeMachine → DxeMachine → ℕ → Bool) (text : S → Option (List ℕ)) (faults : S → ℕ) (stands : M → StoreState → Type 0) (store : M) (catalog : Catalog) (fuel : ℕ)
    (opening : DxeMachine) (first : S) (turns : ℕ) (core later : DxeCore) (kept grown : Queue) (sink shown : S) (before evaluated now : ℕ) (number : ℕ)
    → (way : IsComing Names Lets text faults stands store catalog fuel opening first turns core kept sink before evaluated)
    → TurnsBy (Names way.earlier) (Lets way.earlier) (IsNow stands store catalog later grown) (IsLeft stands store catalog later grown) catalog fuel (came catalog fuel opening way.earlier) (record { old = text sink; new = text shown }) evaluated now (Ok (T.Reached (R.Barred number)))
    → BarsBy Names Lets stands store catalog fuel opening later grown number (text first) (text shown)
coming_bars first_law Names Lets text faults stands store catalog fuel opening first turns core later kept grown sink shown before evaluated now number way held =
    let m = came catalog fuel opening way.earlier in
    let running = way.on.now.machine.core.running in
    let is = target_at (Names way.earlier) catalog m held.target first_law running held.aimed in
    record {
      earlier = way.earlier;
      run = way.run;
      bars = record {
        running = running;
        due = record { target = held.target; aimed = held.aimed; starting = held.turned.starting };
        barred = held.turned.barred;
        text = text_still (text_of m.lines) (text first) (text sink) (text shown) way.has.put held.turned.text;
      };
      left = left_before stands store catalog later grown m held.target Any is held.turned.left;
    }

-- either of the two
unfoldable pub coming_to : {M S : Type 0} (first_law : FirstEligibleMayStart) (Names : List DxeMachine → DxeMachine → Option ℕ → Type 0) (Lets : List DxeMachine → DxeMachine → ℕ → Bool) (text : S → Option (List ℕ)) (faults : S → ℕ) (stands : M → StoreState → Type 0) (store : M) (catalog : Catalog) (fuel : ℕ)
    (opening : DxeMachine) (first : S) (turns : ℕ) (core later : DxeCore) (kept grown : Queue) (sink shown : S) (before evaluated now : ℕ) (reached : Reached DxeEnd)
    → (way : IsComing Names Lets text faults stands store catalog fuel opening first turns core kept sink before evaluated)
    → TurnsBy (Names way.earlier) (Lets way.earlier) (IsNow stands store catalog later grown) (IsLeft stands store catalog later grown) catalog fuel (came catalog fuel opening way.earlier) (record { old = text sink; new = text shown }) evaluated now (Ok (T.Reached reached))
    → RunsBy Names Lets stands store catalog fuel opening later grown (text first) (text shown) (Ok reached)
coming_to first_law Names Lets text faults stands store catalog fuel opening first turns core later kept grown sink shown before evaluated now (R.End how) way over =
    coming_over first_law Names Lets text faults stands store catalog fuel opening first turns core later kept grown sink shown before evaluated now how way over
coming_to first_law Names Lets text faults stands store catalog fuel opening first turns core later kept grown sink shown before evaluated now (R.Barred number) way held =
    coming_bars first_law Names Lets text faults stands store catalog fuel opening first turns core later kept grown sink shown before evaluated now number way held

-- behind it no more actions were taken than the fuel lets, so that no more interfaces are left
pub few_over : {M S : Type 0} (laws : StepLaws) (Names : List DxeMachine → DxeMachine → Option ℕ → Type 0) (Lets : List DxeMachine → DxeMachine → ℕ → Bool) (text : S → Option (List ℕ)) (faults : S → ℕ) (stands : M → StoreState → Type 0) (store : M) (catalog : Catalog) (fuel : ℕ)
    (opening : DxeMachine) (first : S) (turns : ℕ) (opened core later : DxeCore) (kept grown : Queue) (sink shown : S) (before evaluated now most : ℕ) (reached : Reached DxeEnd) → fuel < most → opened.fuel.taken < most
    → IsCoreOf catalog opened opening → IsFor catalog fuel later → (way : IsComing Names Lets text faults stands store catalog fuel opening first turns core kept sink before evaluated)
    → TurnsBy (Names way.earlier) (Lets way.earlier) (IsNow stands store catalog later grown) (IsLeft stands store catalog later grown) catalog fuel (came catalog fuel opening way.earlier) (record { old = text sink; new = text shown }) evaluated now (Ok (T.Reached reached))
    → length later.services.handles.interfaces < most
few_over laws Names Lets text faults stands store catalog fuel opening first turns opened core later kept grown sink shown before evaluated now most (R.End how) bound few opens made way over =
    let m = came catalog fuel opening way.earlier in
    let is = target_at (Names way.earlier) catalog m over.target laws.first way.on.now.machine.core.running over.aimed in
    let actions = opens.actions in
    let begun : opening.actions < most = omega (arith, few, actions) in
    let last : DxeMachine = dxe_step catalog fuel over.target in
    let taken : last.actions < most = few_by catalog fuel m over.target Any is most bound (way.few most bound begun) in
    let same : last.actions ≡ later.fuel.taken = over.turned.now.machine.core.actions in
    let counted = made.counted.interfaces in
    omega (arith, taken, same, counted)
few_over laws Names Lets text faults stands store catalog fuel opening first turns opened core later kept grown sink shown before evaluated now most (R.Barred number) bound few opens made way held =
    let m = came catalog fuel opening way.earlier in
    let is = target_at (Names way.earlier) catalog m held.target laws.first way.on.now.machine.core.running held.aimed in
    let actions = opens.actions in
    let begun : opening.actions < most = omega (arith, few, actions) in
    let taken : m.actions < most = way.few most bound begun in
    let same : m.actions ≡ later.fuel.taken = (left_before stands store catalog later grown m held.target Any is held.turned.left).machine.core.actions in
    let counted = made.counted.interfaces in
    omega (arith, taken, same, counted)

-- nor did more drivers leave the queue than there are modules, and one that was not let
pub few_left : {M S : Type 0} (laws : StepLaws) (Names : List DxeMachine → DxeMachine → Option ℕ → Type 0) (Lets : List DxeMachine → DxeMachine → ℕ → Bool) (text : S → Option (List ℕ)) (faults : S → ℕ) (stands : M → StoreState → Type 0) (store : M) (catalog : Catalog) (fuel : ℕ)
    (opening : DxeMachine) (first : S) (turns : ℕ) (core later : DxeCore) (kept grown : Queue) (sink shown : S) (before evaluated now : ℕ) (reached : Reached DxeEnd) → IsWellFormed catalog
    → (way : IsComing Names Lets text faults stands store catalog fuel opening first turns core kept sink before evaluated)
    → TurnsBy (Names way.earlier) (Lets way.earlier) (IsNow stands store catalog later grown) (IsLeft stands store catalog later grown) catalog fuel (came catalog fuel opening way.earlier) (record { old = text sink; new = text shown }) evaluated now (Ok (T.Reached reached))
    → grown.left ≤ length catalog.modules + 1
few_left laws Names Lets text faults stands store catalog fuel opening first turns core later kept grown sink shown before evaluated now (R.End how) well way over =
    let m = came catalog fuel opening way.earlier in
    let going = way.on.now.machine.core.running in
    let is = target_at (Names way.earlier) catalog m over.target laws.first going over.aimed in
    let few = few_started catalog (dxe_step catalog fuel over.target) (nearer_by laws catalog fuel m over.target Any well going way.on.way is).way in
    let left = over.turned.now.queue.left in
    omega (arith, few, left)
few_left laws Names Lets text faults stands store catalog fuel opening first turns core later kept grown sink shown before evaluated now (R.Barred number) well way held =
    let m = came catalog fuel opening way.earlier in
    let is = target_at (Names way.earlier) catalog m held.target laws.first way.on.now.machine.core.running held.aimed in
    let few = few_started catalog m way.on.way in
    let left = (left_before stands store catalog later grown m held.target Any is held.turned.left).left in
    omega (arith, few, left)

-- the turn that is given up
pub coming_halts : {M S : Type 0} (first_law : FirstEligibleMayStart) (Names : List DxeMachine → DxeMachine → Option ℕ → Type 0) (Lets : List DxeMachine → DxeMachine → ℕ → Bool) (text : S → Option (List ℕ)) (faults : S → ℕ) (stands : M → StoreState → Type 0) (store : M) (catalog : Catalog) (fuel : ℕ)
    (opening : DxeMachine) (first : S) (turns : ℕ) (core later : DxeCore) (kept grown : Queue) (sink shown : S) (before evaluated now : ℕ) (halt : Halt)
    → (way : IsComing Names Lets text faults stands store catalog fuel opening first turns core kept sink before evaluated)
    → TurnsBy (Names way.earlier) (Lets way.earlier) (IsNow stands store catalog later grown) (IsLeft stands store catalog later grown) catalog fuel (came catalog fuel opening way.earlier) (record { old = text sink; new = text shown }) evaluated now (Err halt)
    → StopsShort Names Lets catalog fuel opening (text first) (text shown)
coming_halts first_law Names Lets text faults stands store catalog fuel opening first turns core later kept grown sink shown before evaluated now halt way up = by up.turned
  where
    m : DxeMachine
    m = came catalog fuel opening way.earlier

    step : DxeMachine
    step = dxe_step catalog fuel up.target

    by : IsGivenUp (Lets way.earlier up.target) catalog up.target step (record { old = text sink; new = text shown }) → StopsShort Names Lets catalog fuel opening (text first) (text shown)
    by (inl none) = record {
      earlier = way.earlier;
      run = way.run;
      part = part_whole (text first) (text shown) (text_of m.lines) (text_still (text_of m.lines) (text first) (text sink) (text shown) way.has.put none);
    }
    by (inr (passes, part)) =
        let running = way.on.now.machine.core.running in
        let same = same_lines catalog m up.target Any (target_at (Names way.earlier) catalog m up.target first_law running up.aimed) in
        record {
          earlier = up.target ∷ way.earlier;
          run = (up.aimed, passes, running, way.run);
          part = part_more m step part.told (text first) (text sink) (text shown) (from_target m up.target step part.told same part.lines) way.has.put part.text;
        }

-- or it was given up before anything was named
pub coming_stops : {M S : Type 0} (first_law : FirstEligibleMayStart) (Names : List DxeMachine → DxeMachine → Option ℕ → Type 0) (Lets : List DxeMachine → DxeMachine → ℕ → Bool) (text : S → Option (List ℕ)) (faults : S → ℕ) (stands : M → StoreState → Type 0) (store : M) (catalog : Catalog) (fuel : ℕ)
    (opening : DxeMachine) (first : S) (turns : ℕ) (core later : DxeCore) (kept grown : Queue) (sink shown : S) (before evaluated now : ℕ) (halt : Halt)
    → (way : IsComing Names Lets text faults stands store catalog fuel opening first turns core kept sink before evaluated)
    → Appends (text sink) (text shown) [] ⊎ (TurnsBy (Names way.earlier) (Lets way.earlier) (IsNow stands store catalog later grown) (IsLeft stands store catalog later grown) catalog fuel (came catalog fuel opening way.earlier) (record { old = text sink; new = text shown }) evaluated now (Err halt) × ⊤)
    → StopsShort Names Lets catalog fuel opening (text first) (text shown)
coming_stops first_law Names Lets text faults stands store catalog fuel opening first turns core later kept grown sink shown before evaluated now halt way (inl none) =
    let lines = text_of (came catalog fuel opening way.earlier).lines in
    record { earlier = way.earlier; run = way.run; part = part_whole (text first) (text shown) lines (text_still lines (text first) (text sink) (text shown) way.has.put none) }
coming_stops first_law Names Lets text faults stands store catalog fuel opening first turns core later kept grown sink shown before evaluated now halt way (inr up) =
    coming_halts first_law Names Lets text faults stands store catalog fuel opening first turns core later kept grown sink shown before evaluated now halt way up.0

-- the bound lets what was evaluated
pub coming_few : {M S : Type 0} (Names : List DxeMachine → DxeMachine → Option ℕ → Type 0) (Lets : List DxeMachine → DxeMachine → ℕ → Bool) (text : S → Option (List ℕ)) (faults : S → ℕ) (stands : M → StoreState → Type 0) (store : M) (catalog : Catalog) (fuel : ℕ)
    (opening : DxeMachine) (first : S) (turns : ℕ) (core : DxeCore) (kept : Queue) (sink : S) (before evaluated now : ℕ) → IsComing Names Lets text faults stands store catalog fuel opening first turns core kept sink before evaluated → now ≤ evaluated
    → EvaluatesFewBy Names Lets catalog fuel opening before now
coming_few Names Lets text faults stands store catalog fuel opening first turns core kept sink before evaluated now way few =
    let counted = way.counted in
    record { earlier = way.earlier; run = way.run; few = omega (arith, counted, few) }

-- with no turn left the run has ended
pub turn_to_come : {M S : Type 0} (ended : DxeHasEnded) (Names : List DxeMachine → DxeMachine → Option ℕ → Type 0) (Lets : List DxeMachine → DxeMachine → ℕ → Bool) (text : S → Option (List ℕ)) (faults : S → ℕ) (stands : M → StoreState → Type 0) (store : M) (catalog : Catalog) (fuel : ℕ)
    (opening : DxeMachine) (first : S) (turns : ℕ) (core : DxeCore) (kept : Queue) (sink : S) (before evaluated : ℕ) → IsComing Names Lets text faults stands store catalog fuel opening first turns core kept sink before evaluated → dxe_bound catalog fuel ≤ turns → ⊥
turn_to_come ended Names Lets text faults stands store catalog fuel opening first turns core kept sink before evaluated way all =
    let m = came catalog fuel opening way.earlier in
    let left = way.left in
    let none : steps_left catalog fuel m ≡ 0 = omega (arith, left, all) in
    let over = ended catalog fuel m none in
    let running : is_some m.ended ≡ false = ap is_some way.on.now.machine.core.running in
    absurd (cc)

-- the queue at the opening
pub opening_queue : (catalog : Catalog) (kept queue : Queue) (volumes : List ℕ) (s : StoreState) (actions : ℕ) → IsNewQueue catalog kept → volumes ≡ (dxe_opening catalog s actions).discovered → Discovers catalog kept volumes queue
    → IsQueueOf catalog (dxe_opening catalog s actions) queue
opening_queue catalog kept queue volumes s actions new same discovers =
    let opening : DxeMachine = dxe_opening catalog s actions in
    let before : DxeMachine = record opening { discovered = []; scheduled = []; requested = []; started = []; handles = no_handles } in
    let has : HasVolumes catalog volumes before opening = record {
      discovered = sym same;
      scheduled = ap (a_priori_drivers catalog) (sym same);
      started = refl;
      requested = refl;
      handles = refl;
    } in
    discovers before opening (new.of before (record { discovered = refl; requested = refl; scheduled = refl; started = refl; handles = refl })) has

-- the opening, with its lines and its queue
unfoldable pub opening_comes : {M S : Type 0} (opens : DxeOpensUnderWay) (waits : UnrequestedDriversWait) (Names : List DxeMachine → DxeMachine → Option ℕ → Type 0) (Lets : List DxeMachine → DxeMachine → ℕ → Bool) (text : S → Option (List ℕ)) (faults : S → ℕ) (stands : M → StoreState → Type 0) (store : M) (catalog : Catalog) (fuel : ℕ)
    (s : StoreState) (actions : ℕ) (first : S) (core : DxeCore) (kept queue : Queue) (shown : List ℕ) (sink : S) (steps : ℕ) → IsWellFormed catalog → StandsFor stands store catalog core (dxe_opening catalog s actions) → IsNewQueue catalog kept
    → Discovers catalog kept shown queue → owed queue ≤ owed kept + length (drivers_of catalog shown) → shown ≡ (dxe_opening catalog s actions).discovered
    → Appends (text first) (text sink) (text_of (discovery_lines shown)) → faults sink ≡ faults first
    → IsComing Names Lets text faults stands store catalog fuel (dxe_opening catalog s actions) first 0 core queue sink steps (steps + owed queue)
opening_comes opens waits Names Lets text faults stands store catalog fuel s actions first core kept queue shown sink steps well is new discovers owes shown_is put same =
    let opening : DxeMachine = dxe_opening catalog s actions in
    let way = opens catalog fuel s actions well.parents in
    let few = way.few in
    let drivers : length (drivers_of catalog shown) ≡ length (discovered_order catalog opening) = ap (λ xs. length (drivers_of catalog xs)) shown_is in
    let none = new.owes in
    record {
      earlier = [];
      run = tt;
      on = record { now = record { machine = is; queue = opening_queue catalog kept queue shown s actions new shown_is discovers }; way = way.way; waits = waits catalog well fuel 0 s actions };
      has = record { put = subst (λ xs. Appends (text first) (text sink) (text_of (discovery_lines xs))) shown_is put; right = same };
      few = λ most bound few. few;
      left = omega (arith, few);
      counted = omega (arith, drivers, none, owes);
    }

-- the drivers of the opening are those of its volumes, each once
pub opening_drivers : (catalog : Catalog) (queue : Queue) (order : Drivers) (opening : DxeMachine) (volumes : List ℕ) → volumes ≡ opening.discovered → IsNewQueue catalog queue → IsOrderOf catalog opening.discovered order → AllDiffer (discovered_order catalog opening)
    → AreNew catalog queue order volumes
opening_drivers catalog queue order opening volumes are new o once = record {
  drivers = o.drivers_are ∙ ap (drivers_of catalog) (sym are) ∙ ap (λ xs. xs ++ drivers_of catalog volumes) (sym new.order);
  differ = subst AllDiffer (sym o.drivers_are) once;
}

-- the lines of the opening are given up
pub opening_halts : (Names : List DxeMachine → DxeMachine → Option ℕ → Type 0) (Lets : List DxeMachine → DxeMachine → ℕ → Bool) (catalog : Catalog) (fuel : ℕ) (s : StoreState) (actions : ℕ) (shown : List ℕ) (old new : Option (List ℕ)) → shown ≡ (dxe_opening catalog s actions).discovered
    → AppendsPart old new (text_of (discovery_lines shown)) → StopsShort Names Lets catalog fuel (dxe_opening catalog s actions) old new
opening_halts Names Lets catalog fuel s actions shown old new is part = record { earlier = []; run = tt; part = subst (λ xs. AppendsPart old new (text_of (discovery_lines xs))) is part }

pub none_evaluated : (Names : List DxeMachine → DxeMachine → Option ℕ → Type 0) (Lets : List DxeMachine → DxeMachine → ℕ → Bool) (catalog : Catalog) (fuel : ℕ) (opening : DxeMachine) (before : ℕ) → EvaluatesFewBy Names Lets catalog fuel opening before before
none_evaluated Names Lets catalog fuel opening before = record { earlier = []; run = tt; few = omega arith }

-- nothing was put
pub opening_part : (Names : List DxeMachine → DxeMachine → Option ℕ → Type 0) (Lets : List DxeMachine → DxeMachine → ℕ → Bool) (catalog : Catalog) (fuel : ℕ) (s : StoreState) (actions : ℕ) (text : Option (List ℕ)) → StopsShort Names Lets catalog fuel (dxe_opening catalog s actions) text text
opening_part Names Lets catalog fuel s actions text = record { earlier = []; run = tt; part = part_none text (text_of (dxe_opening catalog s actions).lines) }
