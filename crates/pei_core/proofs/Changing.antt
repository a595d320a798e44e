-- The GUIDs that an action changed, by its reply: none where it was refused or is no call that changes any, and those of its descriptors where it succeeded.
use Rattle.std.proofs.Common.{◌≡◌, ℕ, Bool, true, false, cond, List, [], ◌∷◌, map, refl, ap, sym, subst, ◌∙◌, Option, Some, None, Result, Ok, Err, option_map, option_to_list, unwrap_or}
use Rattle.pi_base.specs.{declared.guid.Guid.Guid, declared.memory.OutOfMemory.OutOfMemory, declared.word.Word.Word}
use Rattle.act_code.specs.declared.action.Action.{Action}
use Rattle.act_code.specs.declared.action.Action.TheVariants as A
use Rattle.store_model.specs.{declared.store_handle.Desc.Desc, declared.store_handle.Sweep.Sweep}
use Rattle.store_model.specs.{declared.store_handle.StoreFault.StoreFault, StoreState.StoreState}
use Rattle.store_model.specs.declared.store_handle.StoreFault.TheVariants as F
use Rattle.store_model.specs.Service.Descriptor.{guid_at, offsets}
use Rattle.boot_model.specs.{declared.line.CallName.CallName, EvaluationBound.is_called, EventGuids.placed, EventGuids.taken_place}
use Rattle.boot_model.specs.{PeiAction.effect, PeiMachine.Frame}
use Rattle.boot_model.specs.Registers.{both, descriptor_in, descriptors_in, is_success}
use Rattle.pei_core.specs.{Guids.AreChangesOf, Guids.no_changes, declared.guids.Changes.Changes, declared.taken.Taken.Taken}
use Rattle.pei_core.specs.Taken.{ChangedNone, Does, HasChanged, IsTaken, changes_by, refusal, refused, swept}

-- by whether the call succeeded
abbrev AreChangesWhere : StoreState → Frame → Action → Bool → Changes → Type 0
AreChangesWhere s frame action b changes = (changes.there.items ≡ cond b (map (guid_at s) (placed frame action)) []) × (changes.gone ≡ cond b (option_map (guid_at s) (taken_place frame action)) None)

by_success : (s : StoreState) (frame : Frame) (action : Action) (b : Bool) (changes : Changes) → is_called (effect s frame action) ≡ b → AreChangesWhere s frame action b changes → AreChangesOf s frame action changes
by_success s frame action b changes e h = let is = subst (λ x. AreChangesWhere s frame action x changes) (sym e) h in record { there = is.0; gone = is.1 }

-- an action that installs and takes away nothing
never : (b : Bool) (guids : List Guid) (guid : Option Guid) → guids ≡ [] → guid ≡ None → ([] ≡ cond b guids []) × (None ≡ cond b guid None)
never true guids guid e f = (sym e, sym f)
never false guids guid e f = (refl, refl)

pub changes_nothing : (s : StoreState) (frame : Frame) (action own : Action) (result : Result Taken OutOfMemory) → action ≡ own → placed frame own ≡ [] → taken_place frame own ≡ None → ChangedNone result
    → HasChanged s action frame result
changes_nothing s frame action own (Ok taken) e none nobody is =
    let off = never (is_called (effect s frame action)) (map (guid_at s) (placed frame action)) (option_map (guid_at s) (taken_place frame action))
    (ap (λ a. map (guid_at s) (placed frame a)) e ∙ ap (map (guid_at s)) none) (ap (λ a. option_map (guid_at s) (taken_place frame a)) e ∙ ap (option_map (guid_at s)) nobody) in
    subst (λ changes. AreChangesOf s frame action changes) (sym is) (record { there = off.0; gone = off.1 })
changes_nothing s frame action own (Err none) e nothing nobody is = tt

pub changes_of : (s : StoreState) (frame : Frame) (action own : Action) (result : Result Taken OutOfMemory) → action ≡ own → HasChanged s own frame result → HasChanged s action frame result
changes_of s frame action own result e h = subst (λ a. HasChanged s a frame result) (sym e) h

-- a refusal
pub refusal_changes : (name : CallName) (status : Word) (s new : StoreState) (frame : Frame) (action : Action) (taken : Taken) → is_success status ≡ false → taken ≡ refusal name status → Does (effect s frame action) s frame.registers taken new
    → HasChanged s action frame (Ok taken)
refusal_changes name status s new frame action taken failed is does =
    let called = subst (λ t. Does (effect s frame action) s frame.registers t new) is does in
    subst (λ t. AreChangesOf s frame action (changes_by t)) (sym is) (by_success s frame action false no_changes (ap is_called called ∙ failed) (refl, refl))

pub fault_changes : (fault : StoreFault) (memory : Bool) (name : CallName) (s new : StoreState) (frame : Frame) (action : Action) (result : Result Taken OutOfMemory) → result ≡ refused name fault
    → IsTaken memory (effect s frame action) s frame.registers result new → HasChanged s action frame result
fault_changes F.Full memory name s new frame action result is taken = subst (λ r. HasChanged s action frame r) (sym is) (refusal_changes name _ s new frame action (refusal name _) refl refl (subst (λ r. IsTaken memory (effect s frame action) s frame.registers r new) is taken))
fault_changes F.Bad memory name s new frame action result is taken = subst (λ r. HasChanged s action frame r) (sym is) (refusal_changes name _ s new frame action (refusal name _) refl refl (subst (λ r. IsTaken memory (effect s frame action) s frame.registers r new) is taken))
fault_changes F.Missing memory name s new frame action result is taken = subst (λ r. HasChanged s action frame r) (sym is) (refusal_changes name _ s new frame action (refusal name _) refl refl (subst (λ r. IsTaken memory (effect s frame action) s frame.registers r new) is taken))
fault_changes F.NotYet memory name s new frame action result is taken = subst (λ r. HasChanged s action frame r) (sym is) (refusal_changes name _ s new frame action (refusal name _) refl refl (subst (λ r. IsTaken memory (effect s frame action) s frame.registers r new) is taken))
fault_changes F.Memory memory name s new frame action result is taken = subst (λ r. HasChanged s action frame r) (sym is) tt

pub refused_none : (fault : StoreFault) (name : CallName) (result : Result Taken OutOfMemory) → result ≡ refused name fault → ChangedNone result
refused_none F.Full name result is = subst ChangedNone (sym is) refl
refused_none F.Bad name result is = subst ChangedNone (sym is) refl
refused_none F.Missing name result is = subst ChangedNone (sym is) refl
refused_none F.NotYet name result is = subst ChangedNone (sym is) refl
refused_none F.Memory name result is = subst ChangedNone (sym is) tt

-- a success
pub swept_changes : (name : CallName) (s new : StoreState) (frame : Frame) (action : Action) (sweep : Sweep) (installs : List Desc) (changes : Changes) (taken : Taken) → taken ≡ swept name sweep installs changes
    → Does (effect s frame action) s frame.registers taken new
    → changes.there.items ≡ map (guid_at s) (placed frame action) → changes.gone ≡ option_map (guid_at s) (taken_place frame action) → HasChanged s action frame (Ok taken)
swept_changes name s new frame action sweep installs changes taken is does there gone =
    let called = subst (λ t. Does (effect s frame action) s frame.registers t new) is does in
    subst (λ t. AreChangesOf s frame action (changes_by t)) (sym is) (by_success s frame action true changes (ap is_called called) (there, gone))

-- the places of an install's descriptors, and those of a reinstall's two
pub install_places : (frame : Frame) (list : List ℕ) (found : List Desc) → Some found ≡ descriptors_in frame.registers list → placed frame (A.Install list) ≡ offsets found
install_places frame list found e = ap (λ o. unwrap_or (option_map offsets o) []) (sym e)

abbrev first_in : Option (Desc × Desc) → Option Desc
first_in (Some pair) = Some pair.0
first_in None = None

abbrev second_in : Option (Desc × Desc) → Option Desc
second_in (Some pair) = Some pair.1
second_in None = None

two_by : (a b : Option Desc) (old new : Desc) → Some (old, new) ≡ both a b → (a ≡ Some old) × (b ≡ Some new)
two_by (Some x) (Some y) old new e = (ap first_in (sym e), ap second_in (sym e))
two_by (Some x) None old new e = cc
two_by None b old new e = cc

pub reinstall_places : (frame : Frame) (old new : ℕ) (one other : Desc) → Some (one, other) ≡ both (descriptor_in frame.registers old) (descriptor_in frame.registers new)
    → (placed frame (A.Reinstall old new) ≡ other.offset ∷ []) × (taken_place frame (A.Reinstall old new) ≡ Some one.offset)
reinstall_places frame old new one other e =
    let two = two_by (descriptor_in frame.registers old) (descriptor_in frame.registers new) one other e in
    (ap (λ o. offsets (option_to_list o)) two.1, ap (λ o. option_map (λ d. d.offset) o) two.0)
