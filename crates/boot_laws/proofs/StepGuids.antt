-- What a step of PEI changes of the GUIDs that are installed.
use Rattle.std.proofs.Common.{◌≡◌, ℕ, ◌+◌, Bool, true, false, cond, List, [], ◌∷◌, ◌∙◌, sym, refl, subst, Option, Some, None, Ok, Err, nat_le, length}
use Rattle.pi_base.specs.{declared.guid.Guid.Guid, Lists.Each}
use Rattle.act_code.specs.declared.action.Action.{Action}
use Rattle.mod_catalog.specs.{declared.catalogue.Catalog.Catalog, declared.catalogue.Part.Part, Parts.has_number}
use Rattle.boot_model.specs.PeiMachine.{Frame, PeiMachine, printed}
use Rattle.boot_model.specs.declared.frame.TheConstants.{MOST_FRAMES}
use Rattle.boot_model.specs.declared.line.Line.TheVariants as L
use Rattle.store_model.specs.{declared.store_handle.Firing.Firing, declared.store_handle.Sweep.Sweep, StoreState.StoreState}
use Rattle.store_model.specs.{StateFacts.IsStoreState, Service.Service, Service.Install.core_install, Service.Install.has_ppi}
use Rattle.boot_model.specs.declared.phase_end.PeiEnd.TheVariants.{Deep, Spent}
use Rattle.boot_model.specs.PeiAction.{Effect, Wrote, Called, Own, Shadowed, Logged, Skipped, Returned, effect}
use Rattle.boot_model.specs.PeiStep.{PeiCase, Fires, Acts, Moves, Pops, Starts, Stops, case_of, in_case, callback_begun, fired, action_at, after_effect, core_called, started_part}
use Rattle.boot_model.specs.{EvaluationBound.action_guids, EvaluationBound.case_guids, MachineFacts.HoldRegisters}
use Rattle.boot_laws.proofs.{PeiCases.cases, LastingGuids.IsQuiet, LastingGuids.quiet_has, QuietServices.PopQuiet, QuietServices.pop_quiet}
use Rattle.boot_laws.specs.ChangedGuids.{IsKept}
use Rattle.boot_model.specs.EventGuids.{case_placed, placed_guids}
use Rattle.boot_laws.proofs.ActionGuids.{Puts, puts, puts_nothing, state_after}
use Rattle.boot_laws.proofs.MovedGuids.{Keeps, OfSome, core_puts, core_state, migration_keeps}

-- what a case tells of the machine
top_from : (P : Frame → Type 0) (a : Option (Firing × Sweep)) (frames : List Frame) (c : Option StoreState) (d : Option (Firing × StoreState)) (e : Option ℕ) (frame : Frame) (below : List Frame)
    → cases a frames c d e ≡ Acts frame below → Each P frames → P frame
top_from P (Some a) frames c d e frame below h each = cc
top_from P None (top ∷ rest) c d e frame below h each = let same : top ≡ frame = cc in subst P same each.0
top_from P None [] (Some c) d e frame below h each = cc
top_from P None [] None (Some d) e frame below h each = cc
top_from P None [] None None (Some e) frame below h each = cc
top_from P None [] None None None frame below h each = cc

move_from : (P : StoreState → Type 0) (a : Option (Firing × Sweep)) (frames : List Frame) (c : Option StoreState) (d : Option (Firing × StoreState)) (e : Option ℕ) (new : StoreState)
    → cases a frames c d e ≡ Moves new → OfSome P c → P new
move_from P (Some a) frames c d e new h is = cc
move_from P None (frame ∷ below) c d e new h is = cc
move_from P None [] (Some c) d e new h is = let same : c ≡ new = cc in subst P same is
move_from P None [] None (Some d) e new h is = cc
move_from P None [] None None (Some e) new h is = cc
move_from P None [] None None None new h is = cc

pop_from : (s : StoreState) (a : Option (Firing × Sweep)) (frames : List Frame) (c : Option StoreState) (d : Option (Firing × StoreState)) (e : Option ℕ) (firing : Firing) (new : StoreState)
    → cases a frames c d e ≡ Pops firing new → PopQuiet s d → IsQuiet s new
pop_from s (Some a) frames c d e firing new h is = cc
pop_from s None (frame ∷ below) c d e firing new h is = cc
pop_from s None [] (Some c) d e firing new h is = cc
pop_from s None [] None (Some d) e firing new h is = let same : d.1 ≡ new = cc in subst (IsQuiet s) same is
pop_from s None [] None None (Some e) firing new h is = cc
pop_from s None [] None None None firing new h is = cc

-- the state behind an action
by_shadow : (b : Bool) (one other : PeiMachine) (s : StoreState) → one.store ≡ s → other.store ≡ s → (cond b one other).store ≡ s
by_shadow true one other s e f = e
by_shadow false one other s e f = f

after_store : (catalog : Catalog) (m : PeiMachine) (frame : Frame) (below : List Frame) (has : Effect) → (after_effect catalog m frame below has).store ≡ state_after m.store has
after_store catalog m frame below (Wrote registers status) = refl
after_store catalog m frame below (Called name reply) = refl
after_store catalog m frame below (Own Shadowed) = by_shadow (has_number m.shadows frame.module_number) _ _ m.store refl refl
after_store catalog m frame below (Logged text) = refl
after_store catalog m frame below (Skipped n) = refl
after_store catalog m frame below (Returned status) = refl

acted_puts : (m spent later : PeiMachine) (b : Bool) (changed placed : List Guid) → spent.store ≡ m.store → Puts m.store later.store changed placed
    → Puts m.store (cond b spent later).store (cond b [] changed) (cond b [] placed)
acted_puts m spent later true changed placed e puts = subst (λ new. Puts m.store new [] []) (sym e) (puts_nothing m.store)
acted_puts m spent later false changed placed e puts = puts

-- behind a state with the same GUIDs
puts_behind : (s mid new : StoreState) (changed placed : List Guid) → ((guid : Guid) → has_ppi mid guid ≡ has_ppi s guid) → Puts mid new changed placed → Puts s new changed placed
puts_behind s mid new changed placed same puts = record { changes = λ guid h. puts.changes guid h ∙ same guid; there = puts.there }

core_store : (m : PeiMachine) (service : Service Sweep) → (core_called m service).store ≡ core_state m.store service
core_store m (Ok (sweep, new)) = refl
core_store m (Err fault) = refl

started_store : (catalog : Catalog) (m : PeiMachine) (number : ℕ) (part : Option Part) → (started_part catalog m number part).store ≡ m.store
started_store catalog m number None = refl
started_store catalog m number (Some part) = refl

same_puts : (m later : PeiMachine) → later.store ≡ m.store → Puts m.store later.store [] []
same_puts m later e = subst (λ new. Puts m.store new [] []) (sym e) (puts_nothing m.store)

quiet_step : (s new : StoreState) → IsStoreState s → IsQuiet s new → Puts s new [] []
quiet_step s new facts quiet = record { changes = λ guid h. quiet_has s new guid facts quiet; there = tt }

pub step_puts : (catalog : Catalog) (fuel : ℕ) (m : PeiMachine) → IsKept m → (case : PeiCase) → case_of catalog m ≡ case
    → Puts m.store (in_case catalog fuel m case).store (case_guids catalog fuel m case) (case_placed catalog fuel m case)
step_puts catalog fuel m kept (Fires firing sweep) e = same_puts m (fired catalog m firing sweep) (by_shadow (nat_le MOST_FRAMES (length m.frames)) (record m { ended = Some Deep }) (callback_begun catalog m firing sweep) m.store refl refl)
step_puts catalog fuel m kept (Acts frame below) e =
    let action : Action = action_at catalog frame in
    let mid : PeiMachine = record m { actions = m.actions + 1 } in
    let later : PeiMachine = after_effect catalog mid frame below (effect m.store frame action) in
    let held : HoldRegisters frame.registers m.store = top_from (λ x. HoldRegisters x.registers m.store) _ m.frames _ _ _ frame below e kept.held in
    let does : Puts m.store later.store (action_guids m.store frame action) (placed_guids m.store frame action) =
    subst (λ new. Puts m.store new (action_guids m.store frame action) (placed_guids m.store frame action)) (sym (after_store catalog mid frame below (effect m.store frame action))) (puts m.store frame action kept.facts held) in
    acted_puts m (record m { ended = Some Spent }) later (nat_le fuel m.actions) (action_guids m.store frame action) (placed_guids m.store frame action) refl does
step_puts catalog fuel m kept (Moves new) e =
    let moved : PeiMachine = record (printed m (L.Migrate m.store.base new.base ∷ [])) { store = new } in
    let keeps : Keeps m.store new = move_from (Keeps m.store) _ m.frames _ _ _ new e (migration_keeps m.store kept.facts) in
    subst (λ after. Puts m.store after (case_guids catalog fuel m (Moves new)) (case_placed catalog fuel m (Moves new))) (sym (core_store moved (core_install new)))
    (puts_behind m.store new (core_state new (core_install new)) _ _ keeps.has (core_puts new keeps.there))
step_puts catalog fuel m kept (Pops firing new) e = quiet_step m.store new kept.facts (pop_from m.store _ m.frames _ _ _ firing new e (pop_quiet m.store kept.facts))
step_puts catalog fuel m kept (Starts number) e = same_puts m (in_case catalog fuel m (Starts number)) (started_store catalog m number _)
step_puts catalog fuel m kept Stops e = puts_nothing m.store
