-- The next action of the top frame, where fuel is left.
use Rattle.std.proofs.Common.{◌≡◌, ℕ, zero, suc, ◌+◌, Bool, true, false, cond, List, [], ◌∷◌, ◌++◌, refl, sym, ap, ◌∙◌, Option, Some, None, nat_le, arith, option_and_then, map, option_map, slice_get, unwrap_or, append-nil}
use Rattle.std.proofs.lemmas.Bool.Decides.{nat_tests}
use Rattle.pi_base.specs.{declared.phase.Phase.TheVariants.Pei, declared.word.Word.TheVariants.Success}
use Rattle.act_code.specs.{declared.action.Action.Action, declared.action.Action.TheVariants.Ret}
use Rattle.mod_catalog.specs.declared.catalogue.Catalog.{Catalog}
use Rattle.store_model.specs.{declared.store_handle.Sweep.Sweep, StoreState.StoreState, Service.Descriptor.guid_at}
use Rattle.boot_model.specs.EventGuids.{case_placed, case_taken, placed, placed_guids, taken_guid, taken_place}
use Rattle.boot_model.specs.{EvaluationBound.is_called, MachineFacts.IsSound, PeiMachine.Frame, PeiMachine.PeiMachine}
use Rattle.boot_model.specs.PeiAction.{Effect, PeiOwn, Reply, effect, own_effect}
use Rattle.boot_model.specs.PeiStep.{Acts, acted, after_effect}
use Rattle.boot_model.specs.PeiStep as Machine
use Rattle.boot_model.specs.declared.line.Line.{Line}
use Rattle.boot_model.specs.declared.phase_end.PeiEnd.TheVariants as E
use Rattle.phase_parts.specs.{Acted.HasLeft, Alike.AreAlike, Alike.as_effect, Found.action_at, Found.found_block}
use Rattle.phase_parts.specs.Deed.{Deed, Wrote, Logged, Skipped, Returned, frames_after, lines_of}
use Rattle.phase_parts.specs.{Spent.HasSpent, Spent.IsSpent, Took.HasDone, declared.fuel.Fuel.Fuel}
use Rattle.pei_core.specs.{declared.core_state.Core.Core, Parts.TakesOwn, Parts.action_goal, SecondStarts.IsAgain}
use Rattle.pei_core.specs.{declared.event.Again.TheVariants.Nobody, Standing.IsCoreFor, Standing.IsCoreOf, Started.RunsStarted}
use Rattle.pei_core.proofs.{PeimStates.same_states, SecondStarts.nobody}

-- the machine in which an action more was counted
abbrev pub counted : PeiMachine → PeiMachine
counted m = record m { actions = m.actions + 1 }

-- the action that the frames find is the machine's
by_block : (block : Option (List Action)) (p : ℕ) → unwrap_or (slice_get (unwrap_or block []) p) (Ret Success) ≡ unwrap_or (option_and_then (λ b. slice_get b p) block) (Ret Success)
by_block None zero = refl
by_block None (suc p) = refl
by_block (Some block) p = refl

pub found : (catalog : Catalog) (frame : Frame) → Machine.action_at catalog frame ≡ action_at Pei catalog frame
found catalog frame = by_block (found_block Pei catalog frame) frame.position

-- whether fuel is left
pub fuel_left : (m : PeiMachine) (fuel : ℕ) (core : Core) (later : Fuel) → m.actions ≡ core.fuel.taken → core.fuel.limit ≡ fuel → HasSpent core.fuel later → nat_le fuel m.actions ≡ false
fuel_left m fuel core later actions limit spent = let less = spent.left in grind (arith, nat_tests, actions, limit, less)

pub none_left : (m : PeiMachine) (fuel : ℕ) (core : Core) (later : Fuel) → m.actions ≡ core.fuel.taken → core.fuel.limit ≡ fuel → IsSpent core.fuel later → nat_le fuel m.actions ≡ true
none_left m fuel core later actions limit spent = let less = spent.none in grind (arith, nat_tests, actions, limit, less)

acted_by : (catalog : Catalog) (fuel : ℕ) (m : PeiMachine) (frame : Frame) (below : List Frame) (b : Bool) → nat_le fuel m.actions ≡ b
    → acted catalog fuel m frame below ≡ cond b (record m { ended = Some E.Spent }) (after_effect catalog (counted m) frame below (effect m.store frame (Machine.action_at catalog frame)))
acted_by catalog fuel m frame below b e = ap (λ t. cond t (record m { ended = Some E.Spent }) (after_effect catalog (counted m) frame below (effect m.store frame (Machine.action_at catalog frame)))) e

pub acted_spent : (catalog : Catalog) (fuel : ℕ) (m : PeiMachine) (frame : Frame) (below : List Frame) → nat_le fuel m.actions ≡ true → acted catalog fuel m frame below ≡ record m { ended = Some E.Spent }
acted_spent catalog fuel m frame below e = acted_by catalog fuel m frame below true e

pub acted_is : (catalog : Catalog) (fuel : ℕ) (m : PeiMachine) (frame : Frame) (below : List Frame) (has : Effect) → nat_le fuel m.actions ≡ false → effect m.store frame (action_at Pei catalog frame) ≡ has
    → acted catalog fuel m frame below ≡ after_effect catalog (counted m) frame below has
acted_is catalog fuel m frame below has e is = acted_by catalog fuel m frame below false e ∙ ap (after_effect catalog (counted m) frame below) (ap (effect m.store frame) (found catalog frame) ∙ is)

-- the GUIDs that the action changes
pub acted_places : (catalog : Catalog) (fuel : ℕ) (m : PeiMachine) (frame : Frame) (below : List Frame) → nat_le fuel m.actions ≡ false → case_placed catalog fuel m (Acts frame below) ≡ placed_guids m.store frame (action_at Pei catalog frame)
acted_places catalog fuel m frame below e = ap (λ b. cond b [] (placed_guids m.store frame (Machine.action_at catalog frame))) e ∙ ap (placed_guids m.store frame) (found catalog frame)

pub acted_takes : (catalog : Catalog) (fuel : ℕ) (m : PeiMachine) (frame : Frame) (below : List Frame) → nat_le fuel m.actions ≡ false → case_taken catalog fuel m (Acts frame below) ≡ taken_guid m.store frame (action_at Pei catalog frame)
acted_takes catalog fuel m frame below e = ap (λ b. cond b None (taken_guid m.store frame (Machine.action_at catalog frame))) e ∙ ap (taken_guid m.store frame) (found catalog frame)

-- an action of both phases is no call
no_call : (does : Deed) → is_called (as_effect does) ≡ false
no_call (Wrote registers status) = refl
no_call (Logged text) = refl
no_call (Skipped n) = refl
no_call (Returned status) = refl

places_none : (s : StoreState) (frame : Frame) (action : Action) → is_called (effect s frame action) ≡ false → placed_guids s frame action ≡ []
places_none s frame action e = ap (λ b. cond b (map (guid_at s) (placed frame action)) []) e

takes_none : (s : StoreState) (frame : Frame) (action : Action) → is_called (effect s frame action) ≡ false → taken_guid s frame action ≡ None
takes_none s frame action e = ap (λ b. cond b (option_map (guid_at s) (taken_place frame action)) None) e

-- the core behind it
stood : (m : PeiMachine) (core : Core) (fuel : Fuel) (frames new : List Frame) (lines : List Line) → IsCoreOf core m → HasSpent core.fuel fuel → new ≡ frames
    → IsCoreOf (record core { frames = new; fuel = fuel }) (record (counted m) { frames = frames; lines = lines })
stood m core fuel frames new lines of spent is = record {
  frames = sym is;
  sweep = of.sweep;
  reported = of.reported;
  states = same_states m (record (counted m) { frames = frames; lines = lines }) core.states refl refl refl of.states;
  actions = ap (λ n. n + 1) of.actions ∙ sym (ap (λ (x : Fuel). x.taken) spent.counted);
  starts = of.starts;
  running = of.running;
}

deed_core : (does : Deed) (catalog : Catalog) (m : PeiMachine) (frame : Frame) (below : List Frame) (core : Core) (fuel : Fuel) (new : List Frame) → IsCoreOf core m → HasSpent core.fuel fuel → new ≡ frames_after frame below does
    → IsCoreOf (record core { frames = new; fuel = fuel }) (after_effect catalog (counted m) frame below (as_effect does))
deed_core (Wrote registers status) catalog m frame below core fuel new of spent is = stood m core fuel _ new m.lines of spent is
deed_core (Logged text) catalog m frame below core fuel new of spent is = stood m core fuel _ new _ of spent is
deed_core (Skipped n) catalog m frame below core fuel new of spent is = stood m core fuel _ new m.lines of spent is
deed_core (Returned status) catalog m frame below core fuel new of spent is = stood m core fuel _ new _ of spent is

deed_store : (does : Deed) (catalog : Catalog) (m : PeiMachine) (frame : Frame) (below : List Frame) → (after_effect catalog (counted m) frame below (as_effect does)).store ≡ m.store
deed_store (Wrote registers status) catalog m frame below = refl
deed_store (Logged text) catalog m frame below = refl
deed_store (Skipped n) catalog m frame below = refl
deed_store (Returned status) catalog m frame below = refl

deed_again : (does : Deed) (catalog : Catalog) (m : PeiMachine) (frame : Frame) (below : List Frame) → IsAgain m (after_effect catalog (counted m) frame below (as_effect does)) Nobody
deed_again (Wrote registers status) catalog m frame below = nobody m (after_effect catalog (counted m) frame below (as_effect (Wrote registers status))) refl refl refl
deed_again (Logged text) catalog m frame below = nobody m (after_effect catalog (counted m) frame below (as_effect (Logged text))) refl refl refl
deed_again (Skipped n) catalog m frame below = nobody m (after_effect catalog (counted m) frame below (as_effect (Skipped n))) refl refl refl
deed_again (Returned status) catalog m frame below = nobody m (after_effect catalog (counted m) frame below (as_effect (Returned status))) refl refl refl

deed_lines : (does : Deed) (catalog : Catalog) (m : PeiMachine) (frame : Frame) (below : List Frame) → (after_effect catalog (counted m) frame below (as_effect does)).lines ≡ m.lines ++ lines_of does
deed_lines (Wrote registers status) catalog m frame below = sym (append-nil m.lines)
deed_lines (Logged text) catalog m frame below = refl
deed_lines (Skipped n) catalog m frame below = sym (append-nil m.lines)
deed_lines (Returned status) catalog m frame below = refl

-- an action of both phases that was taken
pub record Done (catalog : Catalog) (fuel : ℕ) (m : PeiMachine) (frame : Frame) (below : List Frame) (core : Core) (lines : List Line) : Type 0 where
  pub later : PeiMachine
  pub is : acted catalog fuel m frame below ≡ later
  pub store : later.store ≡ m.store
  pub fields : IsCoreOf core later
  pub printed : later.lines ≡ m.lines ++ lines
  pub there : case_placed catalog fuel m (Acts frame below) ≡ []
  pub gone : case_taken catalog fuel m (Acts frame below) ≡ None
  pub again : IsAgain m later Nobody

pub done : (law : AreAlike Sweep Reply PeiOwn) (catalog : Catalog) (fuel : ℕ) (m : PeiMachine) (frame : Frame) (below : List Frame) (core : Core) (later : Fuel) (new : List Frame) (lines : List Line)
    → IsCoreOf core m → core.fuel.limit ≡ fuel → HasSpent core.fuel later → HasDone frame below (action_at Pei catalog frame) lines new
    → Done catalog fuel m frame below (record core { frames = new; fuel = later }) lines
done law catalog fuel m frame below core later new lines of limit spent has =
    let left = fuel_left m fuel core later of.actions limit spent in
    let is = law.both (own_effect m.store frame) frame (action_at Pei catalog frame) has.does has.is in
    record {
      later = after_effect catalog (counted m) frame below (as_effect has.does);
      is = acted_is catalog fuel m frame below (as_effect has.does) left is;
      store = deed_store has.does catalog m frame below;
      fields = deed_core has.does catalog m frame below core later new of spent has.frames;
      printed = deed_lines has.does catalog m frame below ∙ ap (λ more. m.lines ++ more) has.told;
      there = acted_places catalog fuel m frame below left ∙ places_none m.store frame (action_at Pei catalog frame) (ap is_called is ∙ no_call has.does);
      gone = acted_takes catalog fuel m frame below left ∙ takes_none m.store frame (action_at Pei catalog frame) (ap is_called is ∙ no_call has.does);
      again = deed_again has.does catalog m frame below;
    }

-- an action of PEI's own is left
pub left_core : (m : PeiMachine) (frame : Frame) (below : List Frame) (core : Core) (later : Fuel) (new : List Frame) → IsCoreOf core m → m.frames ≡ frame ∷ below → HasSpent core.fuel later → new ≡ frame ∷ below
    → IsCoreOf (record core { frames = new; fuel = later }) (counted m)
left_core m frame below core later new of e spent is = stood m core later m.frames new m.lines of spent (is ∙ sym e)

pub counted_sound : (m : PeiMachine) → IsSound m → IsSound (counted m)
counted_sound m sound = record { held = sound.held; modules = sound.modules; sweeps = sound.sweeps; core_sweep = sound.core_sweep; few = sound.few }

pub counted_started : (m : PeiMachine) → RunsStarted m → RunsStarted (counted m)
counted_started m of = record { bodies = of.bodies; frames_are = of.frames_are }

abbrev pub takes_own : (catalog : Catalog) (m : PeiMachine) (frame : Frame) (below : List Frame) (action : Action) (new : List Frame) → m.frames ≡ frame ∷ below → HasLeft Pei catalog frame below action new → TakesOwn catalog action (counted m)
takes_own catalog m frame below action new e has = record { top = frame; below = below; frames = e; own = has.own; fits = has.fits; within = has.within; here = has.here }

-- where it leads
pub own_leads : (catalog : Catalog) (fuel : ℕ) (m : PeiMachine) (frame : Frame) (below : List Frame) (action : Action) → nat_le fuel m.actions ≡ false → action ≡ action_at Pei catalog frame
    → acted catalog fuel m frame below ≡ (action_goal catalog (counted m) frame below action).to
own_leads catalog fuel m frame below action left is = acted_is catalog fuel m frame below (effect m.store frame action) left (ap (effect m.store frame) (sym is))

pub own_places : (catalog : Catalog) (fuel : ℕ) (m : PeiMachine) (frame : Frame) (below : List Frame) (action : Action) → nat_le fuel m.actions ≡ false → action ≡ action_at Pei catalog frame
    → case_placed catalog fuel m (Acts frame below) ≡ placed_guids m.store frame action
own_places catalog fuel m frame below action left is = acted_places catalog fuel m frame below left ∙ ap (placed_guids m.store frame) (sym is)

pub own_takes : (catalog : Catalog) (fuel : ℕ) (m : PeiMachine) (frame : Frame) (below : List Frame) (action : Action) → nat_le fuel m.actions ≡ false → action ≡ action_at Pei catalog frame
    → case_taken catalog fuel m (Acts frame below) ≡ taken_guid m.store frame action
own_takes catalog fuel m frame below action left is = acted_takes catalog fuel m frame below left ∙ ap (taken_guid m.store frame) (sym is)

-- the core for its catalogue and its fuel, where an action more was counted
pub for_counted : (catalog : Catalog) (fuel : ℕ) (core : Core) (later : Fuel) (new : List Frame) → HasSpent core.fuel later → IsCoreFor catalog fuel core → IsCoreFor catalog fuel (record core { frames = new; fuel = later })
for_counted catalog fuel core later new spent for = record {
  states = for.states;
  known = for.known;
  fuelled = ap (λ (x : Fuel). x.limit) spent.counted ∙ for.fuelled;
}
