-- What is told of a run of PEI by choices, a step further.
use Rattle.std.proofs.Common.{◌≡◌, ℕ, suc, ◌-◌, arith, length, Bool, true, false, cond, List, [], ◌∷◌, ◌++◌, flat_map, Option, Some, None, option_map, Result, Ok, Err, IfOk, refl, sym, ap, ◌∙◌, subst, inl, inr, take, option_to_list, append-nil}
use Rattle.std.specs.Option.{option_or}
use Rattle.pi_base.specs.{declared.guid.Guid.Guid, declared.phase.Phase.TheVariants.Pei as InPei}
use Rattle.boot_laws.specs.ChangedGuids.{GuidsAreThese, GuidsChange, IsKept, is_among}
use Rattle.boot_model.specs.{declared.phase_end.PeiEnd.PeiEnd, EventGuids.pei_placed, EventGuids.pei_taken, PeiChoice.next_peim}
use Rattle.boot_model.specs.{PeiMachine.PeiMachine, PeiRun.pei_opening}
use Rattle.boot_model.specs.PeiStep.{Stops, case_of, pei_step, started, started_part, stopped, with_start}
use Rattle.boot_trace.specs.Printing.{Texts}
use Rattle.mod_catalog.specs.{declared.catalogue.Catalog.Catalog, declared.catalogue.Part.Part, Parts.has_number, Parts.part_at}
use Rattle.boot_laws.specs.{declared.choice.Before.Before, Naming.Rules, PeiAim.CursorAims, PeiAim.with_cursor}
use Rattle.boot_laws.specs.{PeiFree.IsOwnCase, PeiFree.OwnPeiStepsAreFree, PeiUnderWay.IsUnderWay, PeiUnderWay.PeiStepsRunOut}
use Rattle.pei_dispatch.specs.{declared.queue.PeiQueue.PeiQueue, Queue.IsQueueOf, Queue.parts_in, View.event_guids, InTurn.told_in_pei}
use Rattle.pei_core.specs.{declared.event.Event.Event, declared.pei.Pei.Pei, Standing.StandsFor, Steps.IsEvent, Steps.IsIdle}
use Rattle.pei_dispatch.specs.Choices.{IsDue, IsPlaceFor, IsRunBy, IsStepBy}
use Rattle.pei_dispatch.specs.Turns.{HasTurned, IsNext, IsNow, IsOver}
use Rattle.pei_dispatch.proofs.Chosen.{Chose, idle_stops, own_case, stands_anywhere, step_is_free}
use Rattle.pei_dispatch.proofs.{Following.guids_are, Following.once_fewer, Idle.step_quiet, Idle.step_stops}
use Rattle.store_model.specs.{Service.Install.has_ppi, StoreState.Board, StoreState.StoreState}
use Rattle.boot_reasons.specs.{declared.nowhere.Nowhere.Nowhere, declared.told.PeiTold.PeiTold, Givers.actor_in}
use Rattle.explain_text.specs.declared.reasons.Giver.{Giver}
use Rattle.boot_reasons.specs.Moving.{heap_used, moved_between, moved_from, unmoved_base}
use Rattle.boot_reasons.specs.Noting.{AreNoted, IsPresent, giver_in}
use Rattle.boot_reasons.specs.PeiReasons.{gained, pei_begun, pei_begun_at, pei_begun_by, pei_giver, pei_moved, starts_between}
use Rattle.boot_reasons.specs.PeiTelling.{IsAt, IsAtEnd, IsBarred, IsStartTold, IsTold}
use Rattle.boot_reasons.specs.Unseen.{NamesUnseen, nowhere}
use Rattle.boot_reasons.proofs.GiverSteps.{actor_present, first_of, giver_on, giver_still}

-- the laws of free steps that a run stands on
pub record Laws : Type 0 where
  pub aims : CursorAims
  pub own : OwnPeiStepsAreFree
  pub nearer : PeiStepsRunOut

-- what holds of an answer, told of a later one
pub on_ok : {A E : Type 0} (P Q : A → Type 0) (r : Result A E) → ((a : A) → P a → Q a) → IfOk r P → IfOk r Q
on_ok P Q (Ok a) f h = f a h
on_ok P Q (Err e) f h = h

-- a list that stays gains nothing, and one with an item more in front that item
gained_none : (before later : List ℕ) → later ≡ before → gained before later ≡ []
gained_none before later same =
    let none : length before - length before ≡ 0 = omega arith in
    ap (gained before) same ∙ ap (λ n. take n before) none

gained_one : (n : ℕ) (before : List ℕ) → gained before (n ∷ before) ≡ n ∷ []
gained_one n before =
    let one : suc (length before) - length before ≡ 1 = omega arith in
    ap (λ k. take k (n ∷ before)) one

no_starts : (m later : PeiMachine) → later.started ≡ m.started → later.again ≡ m.again → starts_between m later ≡ []
no_starts m later started again = ap (λ xs. xs ++ gained m.again later.again) (gained_none m.started later.started started) ∙ gained_none m.again later.again again

-- a start is told of the module that starts
one_start : (m later : PeiMachine) (number : ℕ) → later.started ≡ (with_start m number).started → later.again ≡ (with_start m number).again → starts_between m later ≡ number ∷ []
one_start m later number started again = ap (λ xs. gained m.started xs ++ gained m.again later.again) started ∙ ap (λ xs. gained m.started (with_start m number).started ++ gained m.again xs) again ∙ by (has_number m.started number)
  where
    by : (b : Bool) → gained m.started (cond b m.started (number ∷ m.started)) ++ gained m.again (cond b (number ∷ m.again) m.again) ≡ number ∷ []
    by true = ap (λ xs. xs ++ gained m.again (number ∷ m.again)) (gained_none m.started m.started refl) ∙ gained_one number m.again
    by false = ap (λ xs. gained m.started (number ∷ m.started) ++ xs) (gained_none m.again m.again refl) ∙ append-nil (gained m.started (number ∷ m.started)) ∙ gained_one number m.started

starts_are : (catalog : Catalog) (m : PeiMachine) (giver : Guid → Giver) (number : ℕ) → flat_map (pei_begun_at catalog m giver) (starts_between m (started catalog m number)) ≡ pei_begun_at catalog m giver number
starts_are catalog m giver number = by (part_at InPei catalog number) refl
  where
    by : (o : Option Part) → part_at InPei catalog number ≡ o → flat_map (pei_begun_at catalog m giver) (starts_between m (started_part catalog m number o)) ≡ option_to_list (option_map (pei_begun_by m giver number) o)
    by None e = ap (flat_map (pei_begun_at catalog m giver)) (no_starts m m refl refl)
    by (Some part) e =
        ap (flat_map (pei_begun_at catalog m giver)) (one_start m (started_part catalog m number (Some part)) number refl refl) ∙ append-nil (pei_begun_at catalog m giver number)
        ∙ ap (λ o. option_to_list (option_map (pei_begun_by m giver number) o)) e

started_store : (catalog : Catalog) (m : PeiMachine) (number : ℕ) (part : Option Part) → (started_part catalog m number part).store ≡ m.store
started_store catalog m number None = refl
started_store catalog m number (Some part) = refl

or_nothing : {A : Type 0} (o : Option A) → option_or o None ≡ o
or_nothing None = refl
or_nothing (Some a) = refl

not_moved : (s : StoreState) → moved_between s s ≡ None
not_moved s = by s.moved refl
  where
    by : (b : Bool) → s.moved ≡ b → moved_from (cond b None (Some s.base)) s ≡ None
    by true e = refl
    by false e = ap (λ b. cond b (Some (record { from = s.base; to = s.base; used = heap_used s })) None) e

same_store : (s later : StoreState) → later ≡ s → moved_between s later ≡ None
same_store s later same = ap (moved_between s) same ∙ not_moved s

-- the first machine of a run by choices is its opening, where nothing is installed
pub first_is : (Names : PeiMachine → Option ℕ → Type 0) (Lets : PeiMachine → ℕ → Bool) (catalog : Catalog) (fuel : ℕ) (opening : PeiMachine) (earlier : List PeiMachine) (m : PeiMachine) → IsRunBy Names Lets catalog fuel opening earlier m → first_of earlier m ≡ opening
first_is Names Lets catalog fuel opening [] m run = run
first_is Names Lets catalog fuel opening (before ∷ earlier) m run = first_is Names Lets catalog fuel opening earlier before run.2

none_at_first : (Names : PeiMachine → Option ℕ → Type 0) (Lets : PeiMachine → ℕ → Bool) (board : Board) (catalog : Catalog) (fuel : ℕ) (earlier : List PeiMachine) (m : PeiMachine) (guid : Guid) → IsRunBy Names Lets catalog fuel (pei_opening board catalog) earlier m
    → has_ppi (first_of earlier m).store guid ≡ false
none_at_first Names Lets board catalog fuel earlier m guid run = ap (λ (x : PeiMachine). has_ppi x.store guid) (first_is Names Lets catalog fuel (pei_opening board catalog) earlier m run)

-- a step that starts nothing and leaves the store tells nothing
told_still : (catalog : Catalog) (earlier : List PeiMachine) (m later : PeiMachine) (told : PeiTold) → IsTold catalog earlier m told → later.started ≡ m.started → later.again ≡ m.again → later.store ≡ m.store → IsTold catalog (m ∷ earlier) later told
told_still catalog earlier m later told is started again store = record {
  begun = is.begun ∙ sym (append-nil (pei_begun catalog earlier m)) ∙ ap (λ xs. pei_begun catalog earlier m ++ flat_map (pei_begun_at catalog m (pei_giver earlier m)) xs) (sym (no_starts m later started again));
  givers = λ guid. is.givers guid ∙ sym (giver_still (λ (x : PeiMachine). has_ppi x.store) (λ (x : PeiMachine). actor_in x.frames) earlier m later guid (ap (λ s. has_ppi s guid) store));
  moved = is.moved ∙ sym (or_nothing (pei_moved earlier m)) ∙ ap (option_or (pei_moved earlier m)) (sym (same_store m.store later.store store));
}

-- the core takes a step by itself
pub went_on : {M : Type 0} (change : GuidsChange) (these : GuidsAreThese) (laws : Laws) (Names : PeiMachine → Option ℕ → Type 0) (Lets : PeiMachine → ℕ → Bool) (stands : M → StoreState → Type 0) (board : Board) (catalog : Catalog) (fuel : ℕ)
    (earlier : List PeiMachine) (m : PeiMachine) (pei later : Pei M) (queue grown : PeiQueue) (told after : PeiTold) (event : Event) (from : Option ℕ) (actor : Giver) (t : Texts)
    → IsAt Names Lets stands board catalog fuel earlier m pei queue told → IsKept m → (IsIdle m → ⊥) → IsEvent catalog fuel m event → HasTurned stands catalog (record { pei = pei; queue = queue; later = later; grown = grown; texts = t }) m (pei_step catalog fuel m)
    → actor ≡ actor_in m.frames → from ≡ unmoved_base m.store
    → AreNoted (has_ppi (pei_step catalog fuel m).store) actor (event_guids event.changes.gone event.changes.there.items) told.givers.map after.givers.map
    → after.moved ≡ option_or told.moved (moved_from from (pei_step catalog fuel m).store) → after.begun ≡ told.begun
    → IsAt Names Lets stands board catalog fuel (m ∷ earlier) (pei_step catalog fuel m) later grown after
went_on change these laws Names Lets stands board catalog fuel earlier m pei later queue grown told after event from actor t is kept busy what turned acts base noted moved begun =
    let next = pei_step catalog fuel m in
    let running = is.now.machine.has.fields.running in
    let step : IsStepBy Names Lets catalog fuel m next = inl (record { own = own_case catalog m busy; is = refl }) in
    let near = laws.nearer catalog fuel m next running is.way (step_is_free laws.aims laws.own Names Lets catalog fuel m next step) in
    let quiet = step_quiet catalog fuel m busy in
    let noted_by : AreNoted (has_ppi next.store) (actor_in m.frames) (event_guids event.changes.gone event.changes.there.items) told.givers.map after.givers.map =
    subst (λ a. AreNoted (has_ppi next.store) a (event_guids event.changes.gone event.changes.there.items) told.givers.map after.givers.map) acts noted in
    let others : (guid : Guid) → is_among guid (event_guids event.changes.gone event.changes.there.items) ≡ false → has_ppi next.store guid ≡ has_ppi m.store guid =
    λ guid none.
    let outside : is_among guid (option_to_list (pei_taken catalog fuel m) ++ pei_placed catalog fuel m) ≡ false = ap (is_among guid) (sym (guids_are catalog fuel m event event.changes.there.items refl what)) ∙ none in
    change catalog fuel m guid kept (ap (is_among guid) (these catalog fuel m) ∙ once_fewer guid (option_to_list (pei_taken catalog fuel m) ++ pei_placed catalog fuel m) outside) in
    record {
      run = (running, step, is.run);
      way = near.way;
      now = turned.now;
      is_told = record {
        begun = begun ∙ is.is_told.begun ∙ sym (append-nil (pei_begun catalog earlier m))
            ∙ ap (λ xs. pei_begun catalog earlier m ++ flat_map (pei_begun_at catalog m (pei_giver earlier m)) xs) (sym (no_starts m next quiet.started quiet.again));
        givers = giver_on (λ (x : PeiMachine). has_ppi x.store) (λ (x : PeiMachine). actor_in x.frames) earlier m next (event_guids event.changes.gone event.changes.there.items) told.givers.map after.givers.map
            (λ x. actor_in_present x) (λ guid. none_at_first Names Lets board catalog fuel earlier m guid is.run) noted_by is.is_told.givers others;
        moved = moved ∙ ap (λ o. option_or o (moved_from from next.store)) is.is_told.moved ∙ ap (λ o. option_or (pei_moved earlier m) (moved_from o next.store)) base;
      };
    }
  where
    actor_in_present : (x : PeiMachine) → IsPresent (actor_in x.frames)
    actor_in_present x = actor_present _

-- the cursor is put where the choice, which sees no text, names it
pub chose_unseen : (rules : Rules Nowhere) (catalog : Catalog) (m : PeiMachine) (old new : PeiQueue) (before : Before) (named : Option ℕ)
    → CursorAims → IsIdle m → IsUnderWay catalog m → IsQueueOf catalog m old → before ≡ told_in_pei rules catalog m → rules.peims nowhere before named → IsPlaceFor (parts_in old) old.cursor named new.cursor
    → Chose (NamesUnseen rules catalog) catalog m new.cursor
chose_unseen rules catalog m old new before named aims idle way of told is place = record {
  idle = idle;
  way = way;
  named = named;
  allowed = subst (λ b. rules.peims nowhere b named) told is;
  place = subst (λ xs. IsPlaceFor xs m.cursor named new.cursor) of.shows.order (subst (λ n. IsPlaceFor (parts_in old) n named new.cursor) (sym of.place) place);
  aims = aims catalog m new.cursor;
}

-- the PEIM that is due starts
pub start_on : {M : Type 0} (laws : Laws) (Names : PeiMachine → Option ℕ → Type 0) (Lets : PeiMachine → ℕ → Bool) (stands : M → StoreState → Type 0) (board : Board) (catalog : Catalog) (fuel : ℕ)
    (earlier : List PeiMachine) (m : PeiMachine) (cursor number : ℕ) (pei later : Pei M) (queue grown : PeiQueue) (told after : PeiTold)
    → IsAt Names Lets stands board catalog fuel earlier m pei queue told → Chose Names catalog m cursor → IsNext catalog (with_cursor m cursor) number → Lets m number ≡ true
    → IsStartTold stands catalog (with_cursor m cursor) number later grown told after
    → IsAt Names Lets stands board catalog fuel (m ∷ earlier) (started catalog m number) later grown after
start_on laws Names Lets stands board catalog fuel earlier m cursor number pei later queue grown told after is k next passes start =
    let running = is.now.machine.has.fields.running in
    let due : IsDue Names catalog m number = record { idle = k.idle; named = k.named; allowed = k.allowed; cursor = cursor; place = k.place; next = next.next } in
    let step : IsStepBy Names Lets catalog fuel m (started catalog m number) = inr (record { number = number; due = due; passes = passes; is = refl }) in
    let near = laws.nearer catalog fuel m (started catalog m number) running is.way (step_is_free laws.aims laws.own Names Lets catalog fuel m (started catalog m number) step) in
    let same : started catalog (with_cursor m cursor) number ≡ started catalog m number = k.aims.start number (k.aims.chosen number next.next) in
    let store : (started catalog m number).store ≡ m.store = started_store catalog m number (part_at InPei catalog number) in
    let giver : giver_in told.givers.map ≡ pei_giver earlier m = λ j guid. is.is_told.givers guid j in
    record {
      run = (running, step, is.run);
      way = near.way;
      now = subst (λ x. IsNow stands catalog later grown x) same start.now;
      is_told = record {
        begun = start.begun ∙ ap (λ xs. xs ++ pei_begun_at catalog m (giver_in told.givers.map) number) is.is_told.begun
            ∙ ap (λ g. pei_begun catalog earlier m ++ pei_begun_at catalog m g number) giver
            ∙ ap (λ xs. pei_begun catalog earlier m ++ xs) (sym (starts_are catalog m (pei_giver earlier m) number));
        givers = λ guid. ap (λ g. giver_in g.map guid) start.givers ∙ is.is_told.givers guid
            ∙ sym (giver_still (λ (x : PeiMachine). has_ppi x.store) (λ (x : PeiMachine). actor_in x.frames) earlier m (started catalog m number) guid (ap (λ s. has_ppi s guid) store));
        moved = start.moved ∙ is.is_told.moved ∙ sym (or_nothing (pei_moved earlier m)) ∙ ap (option_or (pei_moved earlier m)) (sym (same_store m.store (started catalog m number).store store));
      };
    }

-- it is not let
pub barred_on : {M : Type 0} (Names : PeiMachine → Option ℕ → Type 0) (Lets : PeiMachine → ℕ → Bool) (stands : M → StoreState → Type 0) (board : Board) (catalog : Catalog) (fuel : ℕ)
    (earlier : List PeiMachine) (m : PeiMachine) (cursor number : ℕ) (pei : Pei M) (queue : PeiQueue) (told : PeiTold)
    → IsAt Names Lets stands board catalog fuel earlier m pei queue told → Chose Names catalog m cursor → IsNext catalog (with_cursor m cursor) number → Lets m number ≡ false
    → IsBarred Names Lets board catalog fuel earlier m number
barred_on Names Lets stands board catalog fuel earlier m cursor number pei queue told is k next never = record {
  run = is.run;
  running = is.now.machine.has.fields.running;
  due = record { idle = k.idle; named = k.named; allowed = k.allowed; cursor = cursor; place = k.place; next = next.next };
  barred = never;
}

-- none is due, and PEI stops
own_stops : (catalog : Catalog) (m : PeiMachine) → case_of catalog m ≡ Stops → IsOwnCase (case_of catalog m)
own_stops catalog m e = subst IsOwnCase (sym e) tt

pub stop_on : {M : Type 0} (Names : PeiMachine → Option ℕ → Type 0) (Lets : PeiMachine → ℕ → Bool) (stands : M → StoreState → Type 0) (board : Board) (catalog : Catalog) (fuel : ℕ)
    (earlier : List PeiMachine) (m : PeiMachine) (cursor : ℕ) (pei later : Pei M) (queue kept : PeiQueue) (told : PeiTold) (how : PeiEnd) (t : Texts)
    → IsAt Names Lets stands board catalog fuel earlier m pei queue told → Chose Names catalog m cursor → next_peim catalog (with_cursor m cursor) ≡ None
    → IsOver stands catalog (record { pei = later; queue = kept; later = later; grown = kept; texts = t }) (with_cursor m cursor) (stopped catalog (with_cursor m cursor)) how
    → («end» : PeiMachine) × IsAtEnd Names Lets stands board catalog fuel (m ∷ earlier) «end» later kept told how
stop_on Names Lets stands board catalog fuel earlier m cursor pei later queue kept told how t is k none over =
    let none_here = k.aims.none.0 none in
    let next : pei_step catalog fuel m ≡ stopped catalog m = step_stops catalog fuel m k.idle none_here in
    let last = stopped catalog m in
    let sweep = over.machine.sweep in
    let stand : StandsFor stands later (with_cursor (record last { ended = None; core_sweep = sweep }) cursor) =
    subst (λ (x : PeiMachine). StandsFor stands later (record x { ended = None; core_sweep = sweep })) k.aims.stop over.machine.machine in
    let at : IsAtEnd Names Lets stands board catalog fuel (m ∷ earlier) last later kept told how = record {
      run = (is.now.machine.has.fields.running, inl (record { own = own_stops catalog m (idle_stops catalog m k.idle none_here); is = sym next }), is.run);
      ended = ap (λ (x : PeiMachine). x.ended) (sym k.aims.stop) ∙ over.ended;
      left = record { sweep = sweep; machine = stands_anywhere stands later (record last { ended = None; core_sweep = sweep }) cursor stand; parts = over.machine.placed.parts };
      is_told = told_still catalog earlier m last told is.is_told refl refl refl;
    } in
    (last, at)

-- PEI ends before its stop
pub cut_on : {M : Type 0} (Names : PeiMachine → Option ℕ → Type 0) (Lets : PeiMachine → ℕ → Bool) (stands : M → StoreState → Type 0) (board : Board) (catalog : Catalog) (fuel : ℕ)
    (earlier : List PeiMachine) (m : PeiMachine) (pei later : Pei M) (queue grown : PeiQueue) (told : PeiTold) (how : PeiEnd) (t : Texts)
    → IsAt Names Lets stands board catalog fuel earlier m pei queue told → (IsIdle m → ⊥) → pei_step catalog fuel m ≡ record m { ended = Some how }
    → IsOver stands catalog (record { pei = pei; queue = queue; later = later; grown = grown; texts = t }) m (pei_step catalog fuel m) how
    → («end» : PeiMachine) × IsAtEnd Names Lets stands board catalog fuel (m ∷ earlier) «end» later grown told how
cut_on Names Lets stands board catalog fuel earlier m pei later queue grown told how t is busy cut over =
    let quiet = step_quiet catalog fuel m busy in
    let at : IsAtEnd Names Lets stands board catalog fuel (m ∷ earlier) (pei_step catalog fuel m) later grown told how = record {
      run = (is.now.machine.has.fields.running, inl (record { own = own_case catalog m busy; is = refl }), is.run);
      ended = over.ended;
      left = record { sweep = over.machine.sweep; machine = over.machine.machine; parts = over.machine.placed.parts };
      is_told = told_still catalog earlier m (pei_step catalog fuel m) told is.is_told quiet.started quiet.again (ap (λ (x : PeiMachine). x.store) cut);
    } in
    (pei_step catalog fuel m, at)
