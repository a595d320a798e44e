-- What is told of a run of DXE by choices, a turn further.
use Rattle.std.proofs.Common.{◌≡◌, ◌≤◌, ℕ, ◌+◌, arith, Bool, false, List, [], ◌∷◌, ◌++◌, Option, Some, None, Ok, option_map, is_some, refl, sym, ap, ◌∙◌, subst, flat_map, option_to_list, append-nil}
use Rattle.pi_base.specs.{declared.guid.Guid.Guid, declared.phase.Phase.TheVariants.Dxe}
use Rattle.boot_laws.specs.{UnrequestedDrivers.UnrequestedDriversWait, declared.choice.Before.Before, declared.choice.Reached.Reached}
use Rattle.boot_laws.specs.{DxeAim.FirstEligibleMayStart, Naming.Rules}
use Rattle.boot_model.specs.{declared.licence.Licence.Licence, declared.phase_end.DxeEnd.DxeEnd}
use Rattle.boot_model.specs.{DriverLicence.numbers_of, DriverLicence.target_of, DxeChoice.a_priori_drivers}
use Rattle.boot_model.specs.declared.licence.Licence.TheVariants as G
use Rattle.boot_model.specs.{declared.driver.Scheduled.Scheduled, DxeMachine.DxeMachine, DxeRun.dxe_bound, DxeRun.dxe_opening}
use Rattle.boot_model.specs.DxeStep.{DxeActs, DxeCase, DxeFires, DxeStarts, DxeStops, driver_started, dxe_case_of, dxe_step, in_dxe_case}
use Rattle.boot_trace.specs.Printing.{Texts}
use Rattle.mod_catalog.specs.{declared.catalogue.Catalog.Catalog, declared.catalogue.Part.Part, Parts.part_at, WellFormed.IsWellFormed}
use Rattle.dxe_dispatch.specs.Queue.{Discovers, IsNewQueue, Queue}
use Rattle.dxe_core.specs.Standing.{DxeCore, IsCoreOf, IsFor, StandsFor}
use Rattle.dxe_dispatch.specs.{declared.answer.Step.Step, declared.answer.Step.TheVariants.Acted, declared.answer.Step.TheVariants.Started}
use Rattle.dxe_dispatch.specs.declared.answer.Turn.TheVariants as T
use Rattle.dxe_dispatch.specs.Choices.{IsAimedBy, IsOnWay, IsRunBy, KeepsPasses, NamesDrivers, TurnsBy, came}
use Rattle.dxe_dispatch.specs.{declared.passes.Agenda.Agenda, Passes.in_types, Passes.queued, Ends.IsNow}
use Rattle.dxe_dispatch.specs.PassList.{GetsVolumes, IsPassListOf, PassList}
use Rattle.dxe_dispatch.specs.Turns.{IsLeft, IsStep, StartsNone}
use Rattle.dxe_dispatch.proofs.Chosen.{Any, StepLaws, nearer_by, target_at, waits_behind}
use Rattle.dxe_dispatch.proofs.ChosenWays.{opening_queue}
use Rattle.dxe_dispatch.proofs.Targets.{Aimed, First, IsTarget, Own}
use Rattle.phase_parts.specs.Frames.{top_of}
use Rattle.boot_laws.specs.declared.choice.Reached.TheVariants as R
use Rattle.boot_laws.specs.DxeUnderWay.{DxeHasEnded, DxeOpensUnderWay, steps_left}
use Rattle.store_model.specs.{HandleState.has_protocol, HandleState.no_handles, StoreState.StoreState}
use Rattle.boot_reasons.specs.{declared.nowhere.Nowhere.Nowhere, declared.told.DxeTold.DxeTold, Givers.actor_in}
use Rattle.explain_text.specs.{declared.reasons.Giver.Giver, declared.reasons.Giver.TheVariants.Absent}
use Rattle.boot_reasons.specs.DxeReasons.{beside_by, dxe_begun, dxe_begun_at, dxe_begun_by, dxe_begun_in, dxe_giver}
use Rattle.boot_reasons.specs.DxeTelling.{EndsTo, IsAtOpening, IsTold, Tells}
use Rattle.boot_reasons.specs.Noting.{AreNoted, giver_in}
use Rattle.boot_reasons.specs.Unseen.{NamesUnseenDrivers, nowhere, unseen_by}
use Rattle.boot_reasons.proofs.GiverSteps.{actor_present, first_of, giver_on, giver_same, giver_still}

-- what a machine has installed, and who runs in it
abbrev pub has_at : DxeMachine → Guid → Bool
has_at m = has_protocol m.handles

abbrev pub actor_at : DxeMachine → Giver
actor_at m = actor_in m.frames

-- the machine at which a choice is aimed has the same handles
pub same_handles : (catalog : Catalog) (m target : DxeMachine) (Leads : ℕ → Type 0) → IsTarget catalog m Leads target → target.handles ≡ m.handles
same_handles catalog m target Leads (Own own) = refl
same_handles catalog m target Leads (First root found c) = refl
same_handles catalog m target Leads (Aimed root c) = refl

pub same_frames : (catalog : Catalog) (m target : DxeMachine) (Leads : ℕ → Type 0) → IsTarget catalog m Leads target → target.frames ≡ m.frames
same_frames catalog m target Leads (Own own) = refl
same_frames catalog m target Leads (First root found c) = refl
same_frames catalog m target Leads (Aimed root c) = refl

-- a driver starts beside the same one, where the same volumes are discovered
beside_same : (catalog : Catalog) (m other : DxeMachine) (number : ℕ) (licence : Licence) → other.discovered ≡ m.discovered → beside_by catalog other number licence ≡ beside_by catalog m number licence
beside_same catalog m other number G.Apriori same = refl
beside_same catalog m other number G.Absent same = refl
beside_same catalog m other number G.True same = refl
beside_same catalog m other number G.Shadow same = refl
beside_same catalog m other number G.Before same = ap (λ volumes. target_of catalog (record m { discovered = volumes }) number) same
beside_same catalog m other number G.After same = ap (λ volumes. target_of catalog (record m { discovered = volumes }) number) same

begun_same : (catalog : Catalog) (m other : DxeMachine) (giver : Guid → Giver) (next : Scheduled) → other.discovered ≡ m.discovered → dxe_begun_at catalog other giver next ≡ dxe_begun_at catalog m giver next
begun_same catalog m other giver next same = by (part_at Dxe catalog next.module_number)
  where
    by : (part : Option Part) → option_to_list (option_map (dxe_begun_by catalog other giver next) part) ≡ option_to_list (option_map (dxe_begun_by catalog m giver next) part)
    by None = refl
    by (Some part) = ap (λ beside. (record (dxe_begun_by catalog m giver next part) { beside = beside }) ∷ []) (beside_same catalog m other next.module_number next.licence same)

-- a start leaves the protocols and the volumes
started_handles : (catalog : Catalog) (m : DxeMachine) (next : Scheduled) (queue : List Scheduled) (part : Option Part) → (driver_started catalog m next queue part).handles ≡ m.handles
started_handles catalog m next queue None = refl
started_handles catalog m next queue (Some part) = refl

started_discovered : (catalog : Catalog) (m : DxeMachine) (next : Scheduled) (queue : List Scheduled) (part : Option Part) → (driver_started catalog m next queue part).discovered ≡ m.discovered
started_discovered catalog m next queue None = refl
started_discovered catalog m next queue (Some part) = refl

-- nothing begins where no driver starts
none_begins : (catalog : Catalog) (m : DxeMachine) (giver : Guid → Giver) → StartsNone catalog m → dxe_begun_in catalog m giver (dxe_case_of catalog m) ≡ []
none_begins catalog m giver none = by (dxe_case_of catalog m) refl
  where
    by : (case : DxeCase) → dxe_case_of catalog m ≡ case → dxe_begun_in catalog m giver case ≡ []
    by (DxeFires note sweep frame below) is = refl
    by (DxeActs frame below) is = refl
    by (DxeStarts next queue) is = absurd (none next.module_number (record { next = next; queue = queue; starts = is; is = refl }))
    by DxeStops is = refl

-- at the opening of a run no protocol is installed
first_has_none : (catalog : Catalog) (fuel : ℕ) (Names : List DxeMachine → DxeMachine → Option ℕ → Type 0) (Lets : List DxeMachine → DxeMachine → ℕ → Bool) (law : FirstEligibleMayStart) (opening : DxeMachine) (earlier : List DxeMachine) (m : DxeMachine) → opening.handles ≡ no_handles
    → IsRunBy Names Lets catalog fuel opening earlier → m.handles ≡ (came catalog fuel opening earlier).handles → (guid : Guid) → has_at (first_of earlier m) guid ≡ false
first_has_none catalog fuel Names Lets law opening [] m none run same guid = ap (λ h. has_protocol h guid) (same ∙ none)
first_has_none catalog fuel Names Lets law opening (target ∷ earlier) m none run same guid =
    first_has_none catalog fuel Names Lets law opening earlier target none run.3
    (same_handles catalog (came catalog fuel opening earlier) target Any (target_at (Names earlier) catalog (came catalog fuel opening earlier) target law run.2 run.0)) guid

-- a run with the turn from this machine, at which the choices were aimed
pub record Turned (catalog : Catalog) (fuel : ℕ) (opening : DxeMachine) (earlier : List DxeMachine) (target : DxeMachine) : Type 0 where
  pub handles : target.handles ≡ (came catalog fuel opening earlier).handles
  pub frames : target.frames ≡ (came catalog fuel opening earlier).frames
  pub first : (guid : Guid) → has_at (first_of earlier target) guid ≡ false

pub turned : (catalog : Catalog) (fuel : ℕ) (Names : List DxeMachine → DxeMachine → Option ℕ → Type 0) (Lets : List DxeMachine → DxeMachine → ℕ → Bool) (law : FirstEligibleMayStart) (opening : DxeMachine) (earlier : List DxeMachine) (target : DxeMachine) → opening.handles ≡ no_handles
    → IsRunBy Names Lets catalog fuel opening earlier → (came catalog fuel opening earlier).ended ≡ None → IsAimedBy (Names earlier) catalog (came catalog fuel opening earlier) target → Turned catalog fuel opening earlier target
turned catalog fuel Names Lets law opening earlier target none run going aimed =
    let m = came catalog fuel opening earlier in
    let is = target_at (Names earlier) catalog m target law going aimed in
    let same = same_handles catalog m target Any is in
    record { handles = same; frames = same_frames catalog m target Any is; first = first_has_none catalog fuel Names Lets law opening earlier target none run same }

-- who has what, in the machine at which the choices were aimed
givers_there : (catalog : Catalog) (fuel : ℕ) (opening : DxeMachine) (earlier : List DxeMachine) (target : DxeMachine) (told : DxeTold) → Turned catalog fuel opening earlier target → IsTold catalog earlier (came catalog fuel opening earlier) told
    → (guid : Guid) → giver_in told.givers.map guid ≡ dxe_giver earlier target guid
givers_there catalog fuel opening earlier target told turn is guid =
    is.givers guid ∙ sym (giver_same has_at actor_at earlier (came catalog fuel opening earlier) target guid (ap (λ h. has_protocol h guid) turn.handles))

-- a step that leaves the handles, in which no driver starts
quiet_told : (catalog : Catalog) (fuel : ℕ) (opening : DxeMachine) (earlier : List DxeMachine) (target later : DxeMachine) (told : DxeTold) → Turned catalog fuel opening earlier target → IsTold catalog earlier (came catalog fuel opening earlier) told
    → StartsNone catalog target → later.handles ≡ target.handles → IsTold catalog (target ∷ earlier) later told
quiet_told catalog fuel opening earlier target later told turn is none same = record {
  begun = is.begun ∙ sym (append-nil (dxe_begun catalog earlier)) ∙ ap (λ xs. dxe_begun catalog earlier ++ xs) (sym (none_begins catalog target (dxe_giver earlier target) none));
  givers = λ guid. givers_there catalog fuel opening earlier target told turn is guid ∙ sym (giver_still has_at actor_at earlier target later guid (ap (λ h. has_protocol h guid) same));
}

-- what the step told is what the run has more
pub told_on : (catalog : Catalog) (fuel : ℕ) (opening : DxeMachine) (earlier : List DxeMachine) (target : DxeMachine) (later : DxeCore) (told after : DxeTold) (actor : Giver) (step : Step) → Turned catalog fuel opening earlier target
    → IsTold catalog earlier (came catalog fuel opening earlier) told → IsStep catalog fuel target step → IsCoreOf catalog later (dxe_step catalog fuel target) → actor ≡ actor_at target → Tells catalog later actor step told after
    → IsTold catalog (target ∷ earlier) (dxe_step catalog fuel target) after
told_on catalog fuel opening earlier target later told after actor (Acted event) turn is step core acts tells =
    let behind = dxe_step catalog fuel target in
    let handles : later.services.handles ≡ behind.handles = sym core.services.handles in
    let noted : AreNoted (has_at behind) (actor_at target) (option_to_list event.changed) told.givers.map after.givers.map =
    subst (λ h. AreNoted (has_protocol h) (actor_at target) (option_to_list event.changed) told.givers.map after.givers.map) handles
    (subst (λ a. AreNoted (has_protocol later.services.handles) a (option_to_list event.changed) told.givers.map after.givers.map) acts tells.1) in
    record {
      begun = tells.0 ∙ is.begun ∙ sym (append-nil (dxe_begun catalog earlier)) ∙ ap (λ xs. dxe_begun catalog earlier ++ xs) (sym (none_begins catalog target (dxe_giver earlier target) step.1));
      givers = giver_on has_at actor_at earlier target behind (option_to_list event.changed) told.givers.map after.givers.map
          (λ x. actor_present (option_map (λ frame. frame.module_number) (top_of x.frames))) turn.first noted (givers_there catalog fuel opening earlier target told turn is) step.0.others;
    }
told_on catalog fuel opening earlier target later told after actor (Started next) turn is step core acts tells =
    let behind = dxe_step catalog fuel target in
    let part = part_at Dxe catalog next.module_number in
    let handles : behind.handles ≡ target.handles = ap (λ c. (in_dxe_case catalog fuel target c).handles) step.1 ∙ started_handles catalog target next step.0 part in
    let discovered : behind.discovered ≡ target.discovered = ap (λ c. (in_dxe_case catalog fuel target c).discovered) step.1 ∙ started_discovered catalog target next step.0 part in
    let there = givers_there catalog fuel opening earlier target told turn is in
    let same : giver_in told.givers.map ≡ dxe_giver earlier target = λ j guid. there guid j in
    let here : dxe_begun_at catalog behind (giver_in told.givers.map) next ≡ dxe_begun_in catalog target (dxe_giver earlier target) (dxe_case_of catalog target) =
    begun_same catalog target behind (giver_in told.givers.map) next discovered ∙ ap (λ giver. dxe_begun_at catalog target giver next) same
    ∙ ap (dxe_begun_in catalog target (dxe_giver earlier target)) (sym step.1) in
    record {
      begun = tells.1 behind core ∙ ap (λ xs. xs ++ dxe_begun_at catalog behind (giver_in told.givers.map) next) is.begun ∙ ap (λ xs. dxe_begun catalog earlier ++ xs) here;
      givers = λ guid. ap (λ g. giver_in g.map guid) tells.0 ∙ there guid ∙ sym (giver_still has_at actor_at earlier target behind guid (ap (λ h. has_protocol h guid) handles));
    }

pub aimed_by : (Names Others : DxeMachine → Option ℕ → Type 0) (catalog : Catalog) (m target : DxeMachine) → ((m : DxeMachine) (named : Option ℕ) → Names m named → Others m named) → IsAimedBy Names catalog m target → IsAimedBy Others catalog m target
aimed_by Names Others catalog m target may by = record { named = by.named; allowed = λ choosing. may m by.named (by.allowed choosing); busy = by.busy; is = by.is }

-- a run by choices is one by others that may name all that these name
pub run_by : (Names Others : List DxeMachine → DxeMachine → Option ℕ → Type 0) (Lets : List DxeMachine → DxeMachine → ℕ → Bool) (catalog : Catalog) (fuel : ℕ) (opening : DxeMachine) (earlier : List DxeMachine)
    → ((earlier : List DxeMachine) (m : DxeMachine) (named : Option ℕ) → Names earlier m named → Others earlier m named)
    → IsRunBy Names Lets catalog fuel opening earlier → IsRunBy Others Lets catalog fuel opening earlier
run_by Names Others Lets catalog fuel opening [] may run = tt
run_by Names Others Lets catalog fuel opening (target ∷ earlier) may run =
    (aimed_by (Names earlier) (Others earlier) catalog (came catalog fuel opening earlier) target (may earlier) run.0, run.1, run.2, run_by Names Others Lets catalog fuel opening earlier may run.3)

-- a machine of the run that has so many turns behind it, and what is told up to it
pub record IsComing {M : Type 0} (Names : List DxeMachine → DxeMachine → Option ℕ → Type 0) (Lets : List DxeMachine → DxeMachine → ℕ → Bool) (stands : M → StoreState → Type 0) (store : M) (catalog : Catalog) (fuel : ℕ)
    (opening : DxeMachine) (turns : ℕ) (wants : Bool) (core : DxeCore) (agenda : Agenda) (told : DxeTold) : Type 0 where
  pub earlier : List DxeMachine
  pub run : IsRunBy Names Lets catalog fuel opening earlier
  pub on : IsOnWay stands store catalog core agenda.queue (came catalog fuel opening earlier)
  pub passes : IsPassListOf catalog wants (came catalog fuel opening earlier) (queued catalog fuel opening earlier) agenda.passes
  pub left : steps_left catalog fuel (came catalog fuel opening earlier) + turns ≤ dxe_bound catalog fuel
  pub is_told : IsTold catalog earlier (came catalog fuel opening earlier) told

-- where it goes no further
pub told_to : {M : Type 0} (law : FirstEligibleMayStart) (Names Others : List DxeMachine → DxeMachine → Option ℕ → Type 0) (Lets : List DxeMachine → DxeMachine → ℕ → Bool) (stands : M → StoreState → Type 0) (store : M) (catalog : Catalog) (fuel : ℕ)
    (opening : DxeMachine) (turns : ℕ) (wants : Bool) (core later : DxeCore) (agenda : Agenda) (grown : Queue) (before now : ℕ) (told : DxeTold) (t : Texts) (reached : Reached DxeEnd) → opening.handles ≡ no_handles
    → ((earlier : List DxeMachine) (m : DxeMachine) (named : Option ℕ) → Names earlier m named → Others earlier m named)
    → (is : IsComing Names Lets stands store catalog fuel opening turns wants core agenda told)
    → TurnsBy (Names is.earlier) (Lets is.earlier) (IsNow stands store catalog later grown) (IsLeft stands store catalog later grown) catalog fuel (came catalog fuel opening is.earlier) t before now (Ok (T.Reached reached))
    → EndsTo Others Lets stands store catalog fuel opening later grown told reached
told_to law Names Others Lets stands store catalog fuel opening turns wants core later agenda grown before now told t (R.End how) none may is by =
    let earlier = is.earlier in
    let m = came catalog fuel opening earlier in
    let going = is.on.now.machine.core.running in
    let turn = turned catalog fuel Names Lets law opening earlier by.target none is.run going by.aimed in (
      by.target ∷ earlier,
      record {
        run = (aimed_by (Names earlier) (Others earlier) catalog m by.target (may earlier) by.aimed, by.turned.passes, going, run_by Names Others Lets catalog fuel opening earlier may is.run);
        ended = by.turned.ended;
        stands_at_end = by.turned.now;
        is_told = quiet_told catalog fuel opening earlier by.target (dxe_step catalog fuel by.target) told turn is.is_told by.turned.none by.turned.handles;
      },
    )
told_to law Names Others Lets stands store catalog fuel opening turns wants core later agenda grown before now told t (R.Barred number) none may is by =
    let earlier = is.earlier in
    let m = came catalog fuel opening earlier in (
      earlier,
      record {
        run = run_by Names Others Lets catalog fuel opening earlier may is.run;
        running = is.on.now.machine.core.running;
        due = record { target = by.target; aimed = aimed_by (Names earlier) (Others earlier) catalog m by.target (may earlier) by.aimed; starting = by.turned.starting };
        barred = by.turned.barred;
      },
    )

-- at the opening the a priori drivers are in EDK2's queue, if it is kept
opening_passes : (catalog : Catalog) (wants : Bool) (opening : DxeMachine) (volumes : List ℕ) (old new : PassList) → old ≡ record { wanted = wants; drivers = []; left = [] } → opening.scheduled ≡ a_priori_drivers catalog volumes
    → volumes ≡ opening.discovered → GetsVolumes catalog volumes old new → IsPassListOf catalog wants opening (numbers_of opening.scheduled) new
opening_passes catalog wants opening volumes old new is scheduled are gets =
    let wanted : old.wanted ≡ wants = ap (λ (k : PassList). k.wanted) is in
    record {
      wanted = gets.wanted ∙ wanted;
      drivers = λ w. gets.drivers (wanted ∙ w) ∙ ap (λ (k : PassList). k.drivers ++ flat_map (in_types catalog) volumes) is ∙ ap (flat_map (in_types catalog)) are;
      left = λ w. gets.left (wanted ∙ w) ∙ ap (λ (k : PassList). k.left ++ numbers_of (a_priori_drivers catalog volumes)) is ∙ ap numbers_of (sym scheduled);
    }

-- the opening, of which nothing is told
pub at_opening : {M : Type 0} (opens : DxeOpensUnderWay) (waits : UnrequestedDriversWait) (stands : M → StoreState → Type 0) (store : M) (catalog : Catalog) (fuel : ℕ) (s : StoreState) (actions : ℕ) (wants : Bool) (core : DxeCore) (kept agenda : Agenda) (told : DxeTold)
    → IsWellFormed catalog → IsFor catalog fuel core → StandsFor stands store catalog core (dxe_opening catalog s actions) → IsNewQueue catalog kept.queue → kept.passes ≡ record { wanted = wants; drivers = []; left = [] }
    → Discovers catalog kept.queue core.services.order.volumes agenda.queue → GetsVolumes catalog core.services.order.volumes kept.passes agenda.passes
    → told.begun ≡ [] → ((guid : Guid) → giver_in told.givers.map guid ≡ Absent) → IsAtOpening stands store catalog fuel s actions wants core agenda told
at_opening opens waits stands store catalog fuel s actions wants core kept agenda told well made is new blank discovers gets begun givers = record {
  made = made;
  on = record {
    now = record { machine = is; queue = opening_queue catalog kept.queue agenda.queue core.services.order.volumes s actions new is.core.services.order.volumes_are discovers };
    way = (opens catalog fuel s actions well.parents).way;
    waits = waits catalog well fuel 0 s actions;
  };
  passes = opening_passes catalog wants (dxe_opening catalog s actions) core.services.order.volumes kept.passes agenda.passes blank (ap (a_priori_drivers catalog) (sym is.core.services.order.volumes_are)) is.core.services.order.volumes_are gets;
  is_told = record { begun = begun; givers = givers };
}

-- from there so many turns are left as the bound lets
pub comes_first : {M : Type 0} (opens : DxeOpensUnderWay) (Names : List DxeMachine → DxeMachine → Option ℕ → Type 0) (Lets : List DxeMachine → DxeMachine → ℕ → Bool) (stands : M → StoreState → Type 0) (store : M) (catalog : Catalog) (fuel : ℕ) (s : StoreState) (actions : ℕ) (wants : Bool) (core : DxeCore) (agenda : Agenda) (told : DxeTold)
    → IsWellFormed catalog → IsAtOpening stands store catalog fuel s actions wants core agenda told → IsComing Names Lets stands store catalog fuel (dxe_opening catalog s actions) 0 wants core agenda told
comes_first opens Names Lets stands store catalog fuel s actions wants core agenda told well at =
    let few = (opens catalog fuel s actions well.parents).few in
    record { earlier = []; run = tt; on = at.on; passes = at.passes; left = omega (arith, few); is_told = at.is_told }

-- one turn more
pub told_further : {M : Type 0} (laws : StepLaws) (Names : List DxeMachine → DxeMachine → Option ℕ → Type 0) (Lets : List DxeMachine → DxeMachine → ℕ → Bool) (stands : M → StoreState → Type 0) (store : M) (catalog : Catalog) (fuel : ℕ)
    (opening : DxeMachine) (turns : ℕ) (wants : Bool) (core later : DxeCore) (agenda grown : Agenda) (before now : ℕ) (told after : DxeTold) (t : Texts) (actor : Giver) (step : Step) → IsWellFormed catalog → opening.handles ≡ no_handles
    → (is : IsComing Names Lets stands store catalog fuel opening turns wants core agenda told)
    → (by : TurnsBy (Names is.earlier) (Lets is.earlier) (IsNow stands store catalog later grown.queue) (IsLeft stands store catalog later grown.queue) catalog fuel (came catalog fuel opening is.earlier) t before now (Ok (T.Took step)))
    → KeepsPasses wants catalog fuel (came catalog fuel opening is.earlier) (queued catalog fuel opening is.earlier) grown.passes by.target (Ok (T.Took step))
    → actor ≡ actor_in core.frames → Tells catalog later actor step told after
    → IsComing Names Lets stands store catalog fuel opening (turns + 1) wants later grown after
told_further laws Names Lets stands store catalog fuel opening turns wants core later agenda grown before now told after t actor step well none is by keeps acts tells =
    let earlier = is.earlier in
    let m = came catalog fuel opening earlier in
    let going = is.on.now.machine.core.running in
    let turn = turned catalog fuel Names Lets laws.first opening earlier by.target none is.run going by.aimed in
    let aim = target_at (Names earlier) catalog m by.target laws.first going by.aimed in
    let near = nearer_by laws catalog fuel m by.target Any well going is.on.way aim in
    let less = near.less in
    let left = is.left in
    record {
      earlier = by.target ∷ earlier;
      run = (by.aimed, by.turned.0.passes, going, is.run);
      on = record { now = by.turned.0.now; way = near.way; waits = waits_behind laws.groups catalog fuel m by.target Any well is.on.way is.on.waits aim };
      passes = keeps;
      left = omega (arith, less, left);
      is_told = told_on catalog fuel opening earlier by.target later told after actor step turn is.is_told by.turned.1 by.turned.0.now.machine.core
          (acts ∙ ap actor_in (sym (turn.frames ∙ is.on.now.machine.core.frames))) tells;
    }

-- with no turn left the run has ended
pub turn_to_come : {M : Type 0} (ended : DxeHasEnded) (Names : List DxeMachine → DxeMachine → Option ℕ → Type 0) (Lets : List DxeMachine → DxeMachine → ℕ → Bool) (stands : M → StoreState → Type 0) (store : M) (catalog : Catalog) (fuel : ℕ)
    (opening : DxeMachine) (turns : ℕ) (wants : Bool) (core : DxeCore) (agenda : Agenda) (told : DxeTold) → IsComing Names Lets stands store catalog fuel opening turns wants core agenda told → dxe_bound catalog fuel ≤ turns → ⊥
turn_to_come ended Names Lets stands store catalog fuel opening turns wants core agenda told is all =
    let m = came catalog fuel opening is.earlier in
    let left = is.left in
    let none : steps_left catalog fuel m ≡ 0 = omega (arith, left, all) in
    let over = ended catalog fuel m none in
    let running : is_some m.ended ≡ false = ap is_some is.on.now.machine.core.running in
    absurd (cc)

-- what a choice that sees no text may name, looking into this sink or that
pub unseen : (rules : Rules Nowhere) (told : List DxeMachine → Before) (earlier : List DxeMachine) (m : DxeMachine) (named : Option ℕ) → NamesDrivers (unseen_by rules) told nowhere earlier m named → NamesUnseenDrivers rules told earlier m named
unseen rules told earlier m named may = may.is
