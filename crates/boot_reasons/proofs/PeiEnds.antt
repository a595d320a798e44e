-- A run of PEI by choices, from its opening to its end, and what is handed on there.
use Rattle.std.proofs.Common.{◌≡◌, ◌≤◌, ℕ, ◌+◌, arith, length, Bool, false, List, [], ◌∷◌, Option, Some, None, refl, sym, ap, ◌∙◌, subst, is_some}
use Rattle.pi_base.specs.declared.guid.Guid.{Guid}
use Rattle.mod_catalog.specs.declared.catalogue.Catalog.{Catalog}
use Rattle.store_model.specs.StoreState.{Board, StoreState}
use Rattle.boot_model.specs.{declared.phase_end.PeiEnd.PeiEnd, Licence.AllDiffer, PeiChoice.pei_order, PeiMachine.PeiMachine}
use Rattle.boot_model.specs.PeiRun.{pei_bound, pei_opening}
use Rattle.boot_laws.specs.declared.choice.Reached.{Reached}
use Rattle.boot_laws.specs.declared.choice.Reached.TheVariants as R
use Rattle.boot_laws.specs.PeiUnderWay.{PeiHasEnded, PeiOpensUnderWay, steps_left}
use Rattle.pei_dispatch.specs.{declared.queue.PeiQueue.PeiQueue, Turns.IsNow}
use Rattle.pei_dispatch.specs.Queue.{AreNew, IsNewQueue, Shows, ShowsBehind, parts_in}
use Rattle.pei_dispatch.specs.View.{AreAlike, View, first_view, view_of, with_volumes}
use Rattle.pei_core.specs.{declared.pei.Pei.Pei, Standing.IsFor, Standing.StandsFor}
use Rattle.pei_dispatch.proofs.Chosen.{step_is_free}
use Rattle.boot_reasons.specs.{declared.pei.PeiExplained.PeiExplained, declared.told.PeiTold.PeiTold, Moving.heap_used, Noting.giver_in}
use Rattle.explain_text.specs.{declared.reasons.Giver.TheVariants.Absent, declared.reasons.Held.Held}
use Rattle.boot_reasons.specs.PeiEnding.{EndsTo, ExplainsEnd, ExplainsRun}
use Rattle.boot_reasons.specs.{PeiReasons.pei_giver, PeiReasons.pei_held, PeiTelling.IsAt, PeiTelling.TurnsTo}
use Rattle.boot_reasons.proofs.PeiSteps.{Laws}

-- a run that has so many turns behind it, and no more steps left than turns
pub record IsOnWay {M : Type 0} (Names : PeiMachine → Option ℕ → Type 0) (Lets : PeiMachine → ℕ → Bool) (stands : M → StoreState → Type 0) (board : Board) (catalog : Catalog) (fuel turns : ℕ) (pei : Pei M) (queue : PeiQueue) (told : PeiTold) : Type 0 where
  pub earlier : List PeiMachine
  pub m : PeiMachine
  pub at : IsAt Names Lets stands board catalog fuel earlier m pei queue told
  pub few : steps_left catalog fuel m + turns ≤ pei_bound catalog fuel

-- at the opening
pub on_way : {M : Type 0} (opens : PeiOpensUnderWay) (Names : PeiMachine → Option ℕ → Type 0) (Lets : PeiMachine → ℕ → Bool) (stands : M → StoreState → Type 0) (board : Board) (catalog : Catalog) (fuel : ℕ) (pei : Pei M) (queue : PeiQueue) (told : PeiTold)
    → IsAt Names Lets stands board catalog fuel [] (pei_opening board catalog) pei queue told → IsOnWay Names Lets stands board catalog fuel 0 pei queue told
on_way opens Names Lets stands board catalog fuel pei queue told at =
    let few = (opens board catalog fuel).few in
    record { earlier = []; m = pei_opening board catalog; at = at; few = omega (arith, few) }

-- a turn more
pub way_on : {M : Type 0} (laws : Laws) (Names : PeiMachine → Option ℕ → Type 0) (Lets : PeiMachine → ℕ → Bool) (stands : M → StoreState → Type 0) (board : Board) (catalog : Catalog) (fuel turns : ℕ) (pei later : Pei M) (queue grown : PeiQueue) (told after : PeiTold)
    → (way : IsOnWay Names Lets stands board catalog fuel turns pei queue told) → TurnsTo Names Lets stands board catalog fuel way.earlier way.m later grown after None → IsOnWay Names Lets stands board catalog fuel (turns + 1) later grown after
way_on laws Names Lets stands board catalog fuel turns pei later queue grown told after way on =
    let run = on.1.run in
    let near = laws.nearer catalog fuel way.m on.0 run.0 way.at.way (step_is_free laws.aims laws.own Names Lets catalog fuel way.m on.0 run.1) in
    let less = near.less in
    let few = way.few in
    record { earlier = way.m ∷ way.earlier; m = on.0; at = on.1; few = omega (arith, less, few) }

-- a turn behind which no other comes
pub way_over : {M : Type 0} (Names : PeiMachine → Option ℕ → Type 0) (Lets : PeiMachine → ℕ → Bool) (stands : M → StoreState → Type 0) (board : Board) (catalog : Catalog) (fuel turns : ℕ) (pei later : Pei M) (queue grown : PeiQueue) (told after : PeiTold) (reached : Reached PeiEnd)
    → (way : IsOnWay Names Lets stands board catalog fuel turns pei queue told) → TurnsTo Names Lets stands board catalog fuel way.earlier way.m later grown after (Some reached) → EndsTo Names Lets stands board catalog fuel later grown after reached
way_over Names Lets stands board catalog fuel turns pei later queue grown told after (R.End how) way over = (way.m ∷ way.earlier, over.0, over.1)
way_over Names Lets stands board catalog fuel turns pei later queue grown told after (R.Barred number) way barred = (way.earlier, way.m, barred)

-- a run that goes on has a turn to come
pub never_all : {M : Type 0} (ended : PeiHasEnded) (Names : PeiMachine → Option ℕ → Type 0) (Lets : PeiMachine → ℕ → Bool) (stands : M → StoreState → Type 0) (board : Board) (catalog : Catalog) (fuel turns : ℕ) (pei : Pei M) (queue : PeiQueue) (told : PeiTold)
    → IsOnWay Names Lets stands board catalog fuel turns pei queue told → pei_bound catalog fuel ≤ turns → ⊥
never_all ended Names Lets stands board catalog fuel turns pei queue told way all =
    let few = way.few in
    let none : steps_left catalog fuel way.m ≡ 0 = omega (arith, few, all) in
    let over = ended catalog fuel way.m none in
    let running : is_some way.m.ended ≡ false = ap is_some way.at.now.machine.has.fields.running in
    absurd (cc)

-- a queue shows each view that says what one says that it shows
abbrev pub AlikeAreShown : Type 0
AlikeAreShown = (catalog : Catalog) (queue : PeiQueue) (view other : View) → Shows catalog queue view → AreAlike view other → Shows catalog queue other

-- the queue knows the volumes of the opening
pub opened : {M : Type 0} (alike : AlikeAreShown) (stands : M → StoreState → Type 0) (board : Board) (catalog : Catalog) (fuel : ℕ) (pei : Pei M) (fresh queue : PeiQueue) (volumes : List ℕ)
    → IsFor catalog fuel pei → StandsFor stands pei (pei_opening board catalog) → IsNewQueue catalog fresh → volumes ≡ (pei_opening board catalog).reported
    → ShowsBehind catalog fresh queue (AreNew volumes) (with_volumes volumes) → queue.cursor ≡ fresh.cursor → queue.walked ≡ fresh.walked → IsNow stands catalog pei queue (pei_opening board catalog)
opened alike stands board catalog fuel pei fresh queue volumes made stand new are shows place walked =
    let m = pei_opening board catalog in
    let differ : AllDiffer volumes = subst AllDiffer (sym (are ∙ stand.has.fields.reported)) made.known.differ in
    let same : AreAlike (with_volumes volumes first_view) (view_of m) = record { volumes = are; starts = λ n. refl; allows = λ n h. refl; installs = λ guid. refl } in
    let shown : Shows catalog queue (view_of m) = alike catalog queue (with_volumes volumes first_view) (view_of m) (shows first_view new.shows differ) same in
    let order : ℕ = length (pei_order catalog m.reported) in
    let within : 0 ≤ order = omega arith in
    record { machine = stand; parts = record { shows = shown; place = sym (place ∙ new.place); walked = walked ∙ new.walked }; within = within }

-- nothing is told at the opening
pub at_opening : {M : Type 0} (opens : PeiOpensUnderWay) (Names : PeiMachine → Option ℕ → Type 0) (Lets : PeiMachine → ℕ → Bool) (stands : M → StoreState → Type 0) (board : Board) (catalog : Catalog) (fuel : ℕ) (pei : Pei M) (queue : PeiQueue) (told : PeiTold)
    → IsNow stands catalog pei queue (pei_opening board catalog) → told.begun ≡ [] → ((guid : Guid) → giver_in told.givers.map guid ≡ Absent) → told.moved ≡ None
    → IsAt Names Lets stands board catalog fuel [] (pei_opening board catalog) pei queue told
at_opening opens Names Lets stands board catalog fuel pei queue told now begun givers moved =
    record { run = refl; way = (opens board catalog fuel).way; now = now; is_told = record { begun = begun; givers = givers; moved = moved } }

-- what is handed on are the lists of the run
pub explained_so : {M : Type 0} (stands : M → StoreState → Type 0) (catalog : Catalog) (pei : Pei M) (queue : PeiQueue) (told : PeiTold) (how : PeiEnd) (held : List Held) (reported : List ℕ) (heap : ℕ)
    → ((m : PeiMachine) → StandsFor stands pei m → parts_in queue ≡ pei_order catalog m.reported → held ≡ pei_held catalog m (giver_in told.givers.map))
    → ((m : PeiMachine) → StandsFor stands pei m → reported ≡ m.reported) → ((m : PeiMachine) → StandsFor stands pei m → heap ≡ heap_used m.store)
    → ExplainsEnd stands catalog pei queue told how (record { «end» = how; begun = told.begun; held = held; reported = reported; moved = told.moved; heap = heap })
explained_so stands catalog pei queue told how held reported heap waits are used earlier x ended left is =
    let last : PeiMachine = record x { ended = None; core_sweep = left.sweep } in
    let machine : StandsFor stands pei last = left.machine in
    let same : giver_in told.givers.map ≡ pei_giver earlier x = λ j guid. is.givers guid j in
    record {
      ended = ended;
      begun = is.begun;
      held = waits last machine left.parts ∙ ap (pei_held catalog x) same;
      reported = are last machine;
      moved = is.moved;
      heap = used last machine;
    }

-- and the run is one of the choices
pub explains_run : {M : Type 0} (Names : PeiMachine → Option ℕ → Type 0) (Lets : PeiMachine → ℕ → Bool) (stands : M → StoreState → Type 0) (board : Board) (catalog : Catalog) (fuel : ℕ) (pei : Pei M) (queue : PeiQueue) (told : PeiTold) (how : PeiEnd) (e : PeiExplained)
    → EndsTo Names Lets stands board catalog fuel pei queue told (R.End how) → ExplainsEnd stands catalog pei queue told how e → ExplainsRun Names Lets stands board catalog fuel pei e
explains_run Names Lets stands board catalog fuel pei queue told how e ends explains =
    let at = ends.2 in
    record { earlier = ends.0; «end» = ends.1; run = at.run; explained = explains ends.0 ends.1 at.ended at.left at.is_told; sweep = at.left.sweep; machine = at.left.machine }

-- at an end the core stands for some machine
pub stands_at_end : {M : Type 0} (Names : PeiMachine → Option ℕ → Type 0) (Lets : PeiMachine → ℕ → Bool) (stands : M → StoreState → Type 0) (board : Board) (catalog : Catalog) (fuel : ℕ) (pei : Pei M) (queue : PeiQueue) (told : PeiTold) (how : PeiEnd)
    → EndsTo Names Lets stands board catalog fuel pei queue told (R.End how) → (m : PeiMachine) × StandsFor stands pei m
stands_at_end Names Lets stands board catalog fuel pei queue told how ends = (record ends.1 { ended = None; core_sweep = ends.2.left.sweep }, ends.2.left.machine)
