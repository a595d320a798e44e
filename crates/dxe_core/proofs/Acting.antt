-- The next action of the top frame, where fuel is left.
use Rattle.std.proofs.Common.{◌≡◌, ℕ, zero, suc, ◌+◌, ◌-◌, ◌^◌, ◌<◌, Bool, true, false, cond, List, [], ◌∷◌, ◌++◌, refl, sym, ap, ◌∙◌, subst, Option, Some, None, nat_le, arith, option_and_then, slice_get, unwrap_or, append-nil}
use Rattle.std.proofs.lemmas.Bool.Decides.{nat_tests}
use Rattle.pi_base.specs.{declared.phase.Phase.TheVariants.Dxe, declared.word.Word.TheVariants.Success}
use Rattle.act_code.specs.{declared.action.Action.Action, declared.action.Action.TheVariants.Ret}
use Rattle.mod_catalog.specs.declared.catalogue.Catalog.{Catalog}
use Rattle.boot_model.specs.{declared.driver.ProtocolSweep.ProtocolSweep, declared.line.Line.Line}
use Rattle.boot_model.specs.declared.phase_end.DxeEnd.TheVariants as E
use Rattle.boot_model.specs.DxeAction.{DxeReply, dxe_effect, own_dxe_effect}
use Rattle.boot_model.specs.DxeMachine.{DriverFrame, DxeMachine}
use Rattle.boot_model.specs.DxeStep.{DxeActs, after_dxe_effect, dxe_acted, dxe_action_at, with_action}
use Rattle.boot_model.specs.EvaluationBound.{changed_protocols, dxe_action_guids, dxe_case_guids, is_dxe_called}
use Rattle.boot_laws.specs.UnrequestedDrivers.{WaitForRequest}
use Rattle.dxe_core.specs.{Services.AreCounted, Services.Services, Event.EventLeaves, Event.quiet, Parts.TakesOwn, Parts.acted_to}
use Rattle.phase_parts.specs.{Acted.HasLeft, Alike.AreAlike, Alike.as_effect, Found.action_at, Found.found_block}
use Rattle.phase_parts.specs.Deed.{Deed, Wrote, Logged, Skipped, Returned, frames_after, lines_of}
use Rattle.phase_parts.specs.{Spent.HasSpent, Spent.IsSpent, Took.HasDone, declared.fuel.Fuel.Fuel}
use Rattle.dxe_core.specs.Standing.{DxeCore, IsCoreOf, IsFor}
use Rattle.dxe_core.proofs.{Cases.quiet_leaves, Fired.same_services}

-- the action that the frames find is the machine's
by_block : (block : Option (List Action)) (p : ℕ) → unwrap_or (slice_get (unwrap_or block []) p) (Ret Success) ≡ unwrap_or (option_and_then (λ b. slice_get b p) block) (Ret Success)
by_block None zero = refl
by_block None (suc p) = refl
by_block (Some block) p = refl

found : (catalog : Catalog) (frame : DriverFrame) → dxe_action_at catalog frame ≡ action_at Dxe catalog frame
found catalog frame = by_block (found_block Dxe catalog frame) frame.position

-- whether fuel is left
pub fuel_left : (m : DxeMachine) (fuel : ℕ) (core : DxeCore) (later : Fuel) → m.actions ≡ core.fuel.taken → core.fuel.limit ≡ fuel → HasSpent core.fuel later → nat_le fuel m.actions ≡ false
fuel_left m fuel core later actions limit spent = let less = spent.left in grind (arith, nat_tests, actions, limit, less)

pub none_left : (m : DxeMachine) (fuel : ℕ) (core : DxeCore) (later : Fuel) → m.actions ≡ core.fuel.taken → core.fuel.limit ≡ fuel → IsSpent core.fuel later → nat_le fuel m.actions ≡ true
none_left m fuel core later actions limit spent = let less = spent.none in grind (arith, nat_tests, actions, limit, less)

acted_by : (catalog : Catalog) (fuel : ℕ) (m : DxeMachine) (frame : DriverFrame) (below : List DriverFrame) (b : Bool) → nat_le fuel m.actions ≡ b
    → dxe_acted catalog fuel m frame below ≡ cond b (record m { ended = Some E.Spent }) (acted_to catalog (with_action m) frame below (dxe_action_at catalog frame))
acted_by catalog fuel m frame below b e = ap (λ t. cond t (record m { ended = Some E.Spent }) (acted_to catalog (with_action m) frame below (dxe_action_at catalog frame))) e

pub acted_spent : (catalog : Catalog) (fuel : ℕ) (m : DxeMachine) (frame : DriverFrame) (below : List DriverFrame) → nat_le fuel m.actions ≡ true → dxe_acted catalog fuel m frame below ≡ record m { ended = Some E.Spent }
acted_spent catalog fuel m frame below e = acted_by catalog fuel m frame below true e

-- where it leads, and the protocols that it changes
pub acted_leads : (catalog : Catalog) (fuel : ℕ) (m : DxeMachine) (frame : DriverFrame) (below : List DriverFrame) (action : Action) → nat_le fuel m.actions ≡ false → action ≡ action_at Dxe catalog frame
    → dxe_acted catalog fuel m frame below ≡ acted_to catalog (with_action m) frame below action
acted_leads catalog fuel m frame below action left is = acted_by catalog fuel m frame below false left ∙ ap (acted_to catalog (with_action m) frame below) (found catalog frame ∙ sym is)

pub acted_guids : (catalog : Catalog) (fuel : ℕ) (m : DxeMachine) (frame : DriverFrame) (below : List DriverFrame) (action : Action) → nat_le fuel m.actions ≡ false → action ≡ action_at Dxe catalog frame
    → dxe_case_guids catalog fuel m (DxeActs frame below) ≡ dxe_action_guids catalog (with_action m) frame action
acted_guids catalog fuel m frame below action left is =
    ap (λ b. cond b [] (dxe_action_guids catalog (with_action m) frame (dxe_action_at catalog frame))) left ∙ ap (dxe_action_guids catalog (with_action m) frame) (found catalog frame ∙ sym is)

-- an action of both phases is no call
no_call : (does : Deed) → is_dxe_called (as_effect does) ≡ false
no_call (Wrote registers status) = refl
no_call (Logged text) = refl
no_call (Skipped n) = refl
no_call (Returned status) = refl

guids_none : (catalog : Catalog) (m : DxeMachine) (frame : DriverFrame) (action : Action) → is_dxe_called (dxe_effect catalog m frame action) ≡ false → dxe_action_guids catalog m frame action ≡ []
guids_none catalog m frame action e = ap (λ b. cond b (changed_protocols action) []) e

-- the core behind it
stood : (catalog : Catalog) (m : DxeMachine) (core : DxeCore) (fuel : Fuel) (frames new : List DriverFrame) (lines : List Line) → IsCoreOf catalog core m → HasSpent core.fuel fuel → new ≡ frames
    → IsCoreOf catalog (record core { frames = new; fuel = fuel }) (record (with_action m) { frames = frames; lines = lines })
stood catalog m core fuel frames new lines of spent is = record {
  frames = sym is;
  services = same_services catalog m (record (with_action m) { frames = frames; lines = lines }) core.services refl refl refl refl of.services;
  actions = ap (λ n. n + 1) of.actions ∙ sym (ap (λ (x : Fuel). x.taken) spent.counted);
  running = of.running;
}

deed_core : (does : Deed) (catalog : Catalog) (m : DxeMachine) (frame : DriverFrame) (below : List DriverFrame) (core : DxeCore) (fuel : Fuel) (new : List DriverFrame) → IsCoreOf catalog core m → HasSpent core.fuel fuel
    → new ≡ frames_after frame below does → IsCoreOf catalog (record core { frames = new; fuel = fuel }) (after_dxe_effect (with_action m) frame below (as_effect does))
deed_core (Wrote registers status) catalog m frame below core fuel new of spent is = stood catalog m core fuel _ new m.lines of spent is
deed_core (Logged text) catalog m frame below core fuel new of spent is = stood catalog m core fuel _ new _ of spent is
deed_core (Skipped n) catalog m frame below core fuel new of spent is = stood catalog m core fuel _ new m.lines of spent is
deed_core (Returned status) catalog m frame below core fuel new of spent is = stood catalog m core fuel _ new _ of spent is

deed_store : (does : Deed) (m : DxeMachine) (frame : DriverFrame) (below : List DriverFrame) → (after_dxe_effect (with_action m) frame below (as_effect does)).store ≡ m.store
deed_store (Wrote registers status) m frame below = refl
deed_store (Logged text) m frame below = refl
deed_store (Skipped n) m frame below = refl
deed_store (Returned status) m frame below = refl

deed_lines : (does : Deed) (m : DxeMachine) (frame : DriverFrame) (below : List DriverFrame) → (after_dxe_effect (with_action m) frame below (as_effect does)).lines ≡ m.lines ++ lines_of does
deed_lines (Wrote registers status) m frame below = sym (append-nil m.lines)
deed_lines (Logged text) m frame below = refl
deed_lines (Skipped n) m frame below = sym (append-nil m.lines)
deed_lines (Returned status) m frame below = refl

deed_leaves : (does : Deed) (catalog : Catalog) (m : DxeMachine) (frame : DriverFrame) (below : List DriverFrame) → EventLeaves catalog quiet m (after_dxe_effect (with_action m) frame below (as_effect does))
deed_leaves (Wrote registers status) catalog m frame below = quiet_leaves catalog m _ refl refl refl refl
deed_leaves (Logged text) catalog m frame below = quiet_leaves catalog m _ refl refl refl refl
deed_leaves (Skipped n) catalog m frame below = quiet_leaves catalog m _ refl refl refl refl
deed_leaves (Returned status) catalog m frame below = quiet_leaves catalog m _ refl refl refl refl

-- an action of both phases that was taken
pub record Done (catalog : Catalog) (fuel : ℕ) (m : DxeMachine) (frame : DriverFrame) (below : List DriverFrame) (core : DxeCore) (lines : List Line) : Type 0 where
  pub later : DxeMachine
  pub is : dxe_acted catalog fuel m frame below ≡ later
  pub store : later.store ≡ m.store
  pub fields : IsCoreOf catalog core later
  pub printed : later.lines ≡ m.lines ++ lines
  pub left : EventLeaves catalog quiet m later
  pub changed : dxe_case_guids catalog fuel m (DxeActs frame below) ≡ []

pub done : (law : AreAlike ProtocolSweep DxeReply ⊥) (catalog : Catalog) (fuel : ℕ) (m : DxeMachine) (frame : DriverFrame) (below : List DriverFrame) (core : DxeCore) (later : Fuel) (new : List DriverFrame) (lines : List Line)
    → IsCoreOf catalog core m → core.fuel.limit ≡ fuel → HasSpent core.fuel later → HasDone frame below (action_at Dxe catalog frame) lines new
    → Done catalog fuel m frame below (record core { frames = new; fuel = later }) lines
done law catalog fuel m frame below core later new lines of limit spent has =
    let left = fuel_left m fuel core later of.actions limit spent in
    let is = law.both (own_dxe_effect catalog (with_action m) frame) frame (action_at Dxe catalog frame) has.does has.is in
    record {
      later = after_dxe_effect (with_action m) frame below (as_effect has.does);
      is = acted_leads catalog fuel m frame below (action_at Dxe catalog frame) left refl ∙ ap (after_dxe_effect (with_action m) frame below) is;
      store = deed_store has.does m frame below;
      fields = deed_core has.does catalog m frame below core later new of spent has.frames;
      printed = deed_lines has.does m frame below ∙ ap (λ more. m.lines ++ more) has.told;
      left = deed_leaves has.does catalog m frame below;
      changed = acted_guids catalog fuel m frame below (action_at Dxe catalog frame) left refl ∙ guids_none catalog (with_action m) frame (action_at Dxe catalog frame) (ap is_dxe_called is ∙ no_call has.does);
    }

-- an action of DXE's own is left
pub left_core : (catalog : Catalog) (m : DxeMachine) (frame : DriverFrame) (below : List DriverFrame) (core : DxeCore) (later : Fuel) (new : List DriverFrame) → IsCoreOf catalog core m → m.frames ≡ frame ∷ below
    → HasSpent core.fuel later → new ≡ frame ∷ below → IsCoreOf catalog (record core { frames = new; fuel = later }) (with_action m)
left_core catalog m frame below core later new of e spent is = stood catalog m core later m.frames new m.lines of spent (is ∙ sym e)

pub waits_on : (catalog : Catalog) (m : DxeMachine) → WaitForRequest catalog m → WaitForRequest catalog (with_action m)
waits_on catalog m waits = record { wait = waits.wait; named = waits.named }

abbrev pub takes_own : (catalog : Catalog) (m : DxeMachine) (frame : DriverFrame) (below : List DriverFrame) (action : Action) (new : List DriverFrame) → m.frames ≡ frame ∷ below → HasLeft Dxe catalog frame below action new
    → TakesOwn action (with_action m)
takes_own catalog m frame below action new e has = record { top = frame; below = below; frames = e; own = has.own; fits = has.fits; within = has.within }

-- what was counted before an action was counted after it
more_counted : (n more : ℕ) (s : Services) → more ≡ n + 1 → AreCounted n s → AreCounted more s
more_counted n more s e counted =
    let made = counted.made in
    let interfaces = counted.interfaces in
    let notes = counted.notes in
    record { made = omega (arith, e, made); interfaces = omega (arith, e, interfaces); notes = omega (arith, e, notes) }

pub for_counted : (catalog : Catalog) (fuel : ℕ) (core : DxeCore) (later : Fuel) (new : List DriverFrame) → HasSpent core.fuel later → IsFor catalog fuel core → IsFor catalog fuel (record core { frames = new; fuel = later })
for_counted catalog fuel core later new spent for = record {
  made = for.made;
  counted = more_counted core.fuel.taken later.taken core.services (ap (λ (x : Fuel). x.taken) spent.counted) for.counted;
  fuelled = ap (λ (x : Fuel). x.limit) spent.counted ∙ for.fuelled;
}

-- the limit stays, and what is counted fits
pub limit_fits : (fuel later : Fuel) → fuel.limit < 2 ^ 32 → HasSpent fuel later → later.limit < 2 ^ 32
limit_fits fuel later fits spent = subst (λ n. n < 2 ^ 32) (sym (ap (λ (x : Fuel). x.limit) spent.counted)) fits

pub count_fits : (fuel later : Fuel) → fuel.limit < 2 ^ 32 → HasSpent fuel later → fuel.taken < 2 ^ 32 - 1
count_fits fuel later fits spent = let less = spent.left in omega (arith, fits, less)
