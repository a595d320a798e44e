-- What an action of PEI's own, of the top frame, leaves.
use Rattle.std.proofs.Common.{◌≡◌, ℕ, zero, suc, Bool, true, false, List, [], ◌∷◌, ◌++◌, take, drop, refl, sym, ap, ◌∙◌, subst, Option, Some, None, append-nil}
use Rattle.pi_base.specs.{Lists.Each, declared.word.Word.Word}
use Rattle.act_code.specs.declared.action.Action.{Action}
use Rattle.mod_catalog.specs.{Parts.has_number, declared.catalogue.Catalog.Catalog}
use Rattle.store_model.specs.{declared.store_handle.Desc.Desc, declared.store_handle.DescKind.TheVariants.Ppi}
use Rattle.store_model.specs.{declared.store_handle.Sweep.Sweep, declared.state.Body.TheVariants.Descriptor}
use Rattle.store_model.specs.StateFacts.{IsStoreState, IsDesc, IsEntry}
use Rattle.store_model.specs.{declared.state.DescriptorBody.DescriptorBody, declared.state.Entry.Entry}
use Rattle.store_model.specs.{StoreState.StoreState, StoreState.body_at, Service.Descriptor.descriptors, Service.Descriptor.offsets}
use Rattle.boot_laws.specs.Stay.{RepliesAreSound, Visits, swept_ppis}
use Rattle.boot_model.specs.{MachineFacts.HoldRegisters, declared.frame.Register.Register, PeiMachine.Frame, PeiMachine.PeiMachine}
use Rattle.boot_model.specs.PeiAction.{Effect, Wrote, Called, Own, Shadowed, Logged, Skipped, Returned, effect}
use Rattle.boot_model.specs.PeiStep.{after_effect, past, shadowed}
use Rattle.boot_model.specs.declared.line.Line.{Line}
use Rattle.phase_parts.specs.Frames.{answered, top_of}
use Rattle.pei_core.specs.{Guids.AreChangesOf, declared.guids.Changes.Changes, Taken.reply_in, declared.taken.Reply.Reply}
use Rattle.pei_core.specs.{declared.core_state.Core.Core, Standing.IsCoreOf, Started.HasStarted}
use Rattle.pei_core.proofs.PeimStates.{same_states}

-- the frame that was found is the top one
same_some : {A : Type 0} (a b : A) → Some a ≡ Some b → a ≡ b
same_some a b e = cc

pub top_is : (found top : Frame) (below frames of : List Frame) → Some found ≡ top_of frames → of ≡ frames → of ≡ top ∷ below → found ≡ top
top_is found top below frames of e same is = same_some found top (e ∙ ap top_of (sym same ∙ is))

-- what the effect prints
shadowed_prints : (m : PeiMachine) (frame : Frame) (below : List Frame) (b : Bool) → has_number m.shadows frame.module_number ≡ b → (told : List Line) × ((shadowed m frame below).lines ≡ m.lines ++ told)
shadowed_prints m frame below true e = rw e (_, refl)
shadowed_prints m frame below false e = rw e (_, refl)

pub effect_prints : (catalog : Catalog) (m : PeiMachine) (frame : Frame) (below : List Frame) (has : Effect) → (told : List Line) × ((after_effect catalog m frame below has).lines ≡ m.lines ++ told)
effect_prints catalog m frame below (Wrote registers status) = ([], sym (append-nil m.lines))
effect_prints catalog m frame below (Called name reply) = (_, refl)
effect_prints catalog m frame below (Own Shadowed) = shadowed_prints m frame below (has_number m.shadows frame.module_number) refl
effect_prints catalog m frame below (Logged text) = (_, refl)
effect_prints catalog m frame below (Skipped n) = ([], sym (append-nil m.lines))
effect_prints catalog m frame below (Returned status) = (_, refl)

-- the core behind a register that was written
abbrev pub wrote : PeiMachine → Frame → List Frame → List Register → Word → PeiMachine
wrote m frame below registers status = record m { frames = record (past frame 0) { registers = registers; last = status } ∷ below }

pub wrote_core : (m : PeiMachine) (frame : Frame) (below : List Frame) (registers : List Register) (status : Word) (core : Core) (frames : List Frame)
    → IsCoreOf core m → frames ≡ answered frame registers status None ∷ below → IsCoreOf (record core { frames = frames }) (wrote m frame below registers status)
wrote_core m frame below registers status core frames of top = record {
  frames = sym top;
  sweep = of.sweep;
  reported = of.reported;
  states = same_states m (wrote m frame below registers status) core.states refl refl refl of.states;
  actions = of.actions;
  starts = of.starts;
  running = of.running;
}

-- the PPIs that a call installs are those that its sweep visits, so their descriptors are there
each_drop : {A : Type 0} (P : A → Type 0) (n : ℕ) (xs : List A) → Each P xs → Each P (drop n xs)
each_drop P zero xs each = each
each_drop P (suc n) [] each = tt
each_drop P (suc n) (x ∷ xs) each = each_drop P n xs each.1

each_take : {A : Type 0} (P : A → Type 0) (n : ℕ) (xs : List A) → Each P xs → Each P (take n xs)
each_take P zero xs each = tt
each_take P (suc n) [] each = tt
each_take P (suc n) (x ∷ xs) each = (each.0, each_take P n xs each.1)

abbrev Stands : StoreState → ℕ → Type 0
Stands s place = (body : DescriptorBody) × (body_at s place ≡ Some (Descriptor body))

entries_stand : (s : StoreState) (entries : List Entry) → Each (IsEntry s Ppi) entries → Each (Stands s) (descriptors entries)
entries_stand s [] each = tt
entries_stand s (entry ∷ entries) each = ((each.0.1.0, each.0.1.1), entries_stand s entries each.1)

are_descriptors : (s : StoreState) (list : List Desc) → Each (Stands s) (offsets list) → Each (IsDesc s) list
are_descriptors s [] each = tt
are_descriptors s (d ∷ ds) each = (each.0, are_descriptors s ds each.1)

visited : (s : StoreState) (sweep : Option Sweep) (list : List Desc) → IsStoreState s → Visits s sweep (offsets list) → Each (IsDesc s) list
visited s None [] facts visits = tt
visited s None (d ∷ ds) facts visits = cc
visited s (Some sweep) [] facts visits = tt
visited s (Some sweep) (d ∷ ds) facts visits =
    let is : offsets (d ∷ ds) ≡ swept_ppis s sweep = visits.1 (λ e. cc) in
    are_descriptors s (d ∷ ds) (subst (λ xs. Each (Stands s) xs) (sym is)
    (entries_stand s _ (each_take (IsEntry s Ppi) _ _ (each_drop (IsEntry s Ppi) sweep.ppi_at s.ppis facts.ppis))))

pub installed_are : (law : RepliesAreSound) (s new : StoreState) (frame : Frame) (action : Action) (reply : Reply) → IsStoreState s → IsStoreState new → HoldRegisters frame.registers s
    → effect s frame action ≡ Called reply.name (reply_in reply frame.registers new) → Each (IsDesc new) reply.installs.items
installed_are law s new frame action reply facts after held is =
    visited new reply.sweep reply.installs.items after (law s frame action reply.name (reply_in reply frame.registers new) facts held is).visits

pub top_held : (s : StoreState) (found top : Frame) (below frames : List Frame) → found ≡ top → frames ≡ top ∷ below → Each (λ frame. HoldRegisters frame.registers s) frames → HoldRegisters found.registers s
top_held s found top below frames same is each = subst (λ f. HoldRegisters f.registers s) (sym same) (subst (λ xs. Each (λ frame. HoldRegisters frame.registers s) xs) is each).0

pub top_started : (started : List ℕ) (found top : Frame) (below frames : List Frame) → found ≡ top → frames ≡ top ∷ below → Each (λ frame. HasStarted started frame.module_number) frames → HasStarted started found.module_number
top_started started found top below frames same is each = subst (λ f. HasStarted started f.module_number) (sym same) (subst (λ xs. Each (λ frame. HasStarted started frame.module_number) xs) is each).0

-- where the action leads, by what it does
pub leads_by : (catalog : Catalog) (m : PeiMachine) (found top : Frame) (below : List Frame) (action : Action) (has : Effect) → found ≡ top → effect m.store found action ≡ has
    → after_effect catalog m top below has ≡ after_effect catalog m top below (effect m.store top action)
leads_by catalog m found top below action has same is = ap (after_effect catalog m top below) (sym (ap (λ f. effect m.store f action) (sym same) ∙ is))

-- and the GUIDs that it changes
pub changed_of_top : (s : StoreState) (found top : Frame) (action : Action) (changes : Changes) → found ≡ top → AreChangesOf s found action changes → AreChangesOf s top action changes
changed_of_top s found top action changes same h = subst (λ f. AreChangesOf s f action changes) same h
