-- Which case of a step applies, and what the step's answer then says.
use Rattle.std.proofs.Common.{◌≡◌, ℕ, Bool, true, false, cond, ◌&&◌, List, [], ◌∷◌, length, Option, Some, None, refl, sym, ap, ◌∙◌, subst, is_some, not, Ok, option_map}
use Rattle.mod_catalog.specs.declared.catalogue.Catalog.{Catalog}
use Rattle.store_model.specs.{declared.store_handle.Firing.Firing, declared.store_handle.Sweep.Sweep}
use Rattle.store_model.specs.{StoreState.StoreState, StoreState.Range, Migration.migration, Migration.migrated_to, Service.Queue.queue_pop}
use Rattle.store_model.specs.Service.Reading.{memory_due}
use Rattle.boot_model.specs.{declared.phase_end.PeiEnd.PeiEnd, EventGuids.case_placed, EventGuids.case_taken}
use Rattle.boot_model.specs.PeiMachine.{Frame, PeiMachine}
use Rattle.boot_model.specs.PeiStep.{PeiCase, Fires, Acts, Moves, Pops, case_of, first_that_applies, acts, starts, in_case, pei_step}
use Rattle.pei_core.specs.{declared.event.Event.Event, declared.event.Stepped.TheVariants.Went, declared.event.Stepped.TheVariants.Ended}
use Rattle.pei_core.specs.Parts.{FiresNext, Goal, LedTo}
use Rattle.pei_core.specs.{SecondStarts.IsAgain, CoreCall.PrintedPart}
use Rattle.pei_core.specs.Steps.{HasStayed, HasStepped, IsCut, IsIdle, StepsTo}
use Rattle.boot_trace.specs.Printing.{Texts}

-- the first that applies, by what the store and the frames give
abbrev by : Catalog → PeiMachine → Option (Firing × Sweep) → List Frame → Option StoreState → Option (Firing × StoreState) → PeiCase
by catalog m a frames c d =
    first_that_applies (option_map (λ pair. Fires pair.0 pair.1) a ∷ acts frames ∷ option_map (λ new. Moves new) c ∷ option_map (λ pair. Pops pair.0 pair.1) d ∷ starts catalog m ∷ [])

pub case_fires : (catalog : Catalog) (m : PeiMachine) (firing : Firing) (sweep : Sweep) → FiresNext (Some (firing, sweep)) m → case_of catalog m ≡ Fires firing sweep
case_fires catalog m firing sweep e = ap (λ a. by catalog m a m.frames (migration m.store) (queue_pop m.store)) e

pub case_acts : (catalog : Catalog) (m : PeiMachine) (frame : Frame) (below : List Frame) → FiresNext None m → m.frames ≡ frame ∷ below → case_of catalog m ≡ Acts frame below
case_acts catalog m frame below e f =
    ap (λ a. by catalog m a m.frames (migration m.store) (queue_pop m.store)) e ∙ ap (λ frames. by catalog m None frames (migration m.store) (queue_pop m.store)) f

pub case_moves : (catalog : Catalog) (m : PeiMachine) (new : StoreState) → FiresNext None m → m.frames ≡ [] → migration m.store ≡ Some new → case_of catalog m ≡ Moves new
case_moves catalog m new e f g =
    ap (λ a. by catalog m a m.frames (migration m.store) (queue_pop m.store)) e
    ∙ ap (λ frames. by catalog m None frames (migration m.store) (queue_pop m.store)) f
    ∙ ap (λ c. by catalog m None [] c (queue_pop m.store)) g

pub case_pops : (catalog : Catalog) (m : PeiMachine) (firing : Firing) (new : StoreState) → FiresNext None m → m.frames ≡ [] → migration m.store ≡ None → queue_pop m.store ≡ Some (firing, new) → case_of catalog m ≡ Pops firing new
case_pops catalog m firing new e f g h =
    ap (λ a. by catalog m a m.frames (migration m.store) (queue_pop m.store)) e
    ∙ ap (λ frames. by catalog m None frames (migration m.store) (queue_pop m.store)) f
    ∙ ap (λ c. by catalog m None [] c (queue_pop m.store)) g
    ∙ ap (λ d. by catalog m None [] None d) h

-- no move is due, and there is none; or one is due, and there is one
none_by : (s : StoreState) (moved : Bool) (planned : Option Range) → (is_some planned && not moved) ≡ false → cond moved None (option_map (migrated_to s) planned) ≡ None
none_by s true planned e = refl
none_by s false None e = refl
none_by s false (Some to) e = cc

by_due : (s : StoreState) (b : Bool) → memory_due s ≡ b → (memory_due s ≡ true → ⊥) → migration s ≡ None
by_due s true e idle = absurd (idle e)
by_due s false e idle = none_by s s.moved s.planned e

pub no_move : (s : StoreState) → (memory_due s ≡ true → ⊥) → migration s ≡ None
no_move s idle = by_due s (memory_due s) refl idle

some_by : (s : StoreState) (moved : Bool) (planned : Option Range) → (is_some planned && not moved) ≡ true → (new : StoreState) × (cond moved None (option_map (migrated_to s) planned) ≡ Some new)
some_by s true None e = cc
some_by s true (Some to) e = cc
some_by s false None e = cc
some_by s false (Some to) e = (migrated_to s to, refl)

-- an option is not both, nor is a list
pub some_none : {A : Type 0} (o : Option A) (a : A) → o ≡ Some a → o ≡ None → ⊥
some_none (Some b) a some none = cc
some_none None a some none = cc

pub cons_nil : {A : Type 0} (a : A) (rest xs : List A) → xs ≡ a ∷ rest → xs ≡ [] → ⊥
cons_nil a rest [] e f = cc
cons_nil a rest (x ∷ xs) e f = cc

-- an event of a case
pub went : (memory : Bool) (Stands : PeiMachine → Type 0) (catalog : Catalog) (fuel : ℕ) (m : PeiMachine) (case : PeiCase) (goal : Goal) (event : Event) (t : Texts)
    → case_of catalog m ≡ case → in_case catalog fuel m case ≡ goal.to → case_placed catalog fuel m case ≡ goal.there → case_taken catalog fuel m case ≡ goal.gone → (IsIdle m → ⊥)
    → LedTo Stands m goal t event → StepsTo memory Stands catalog fuel m t (Ok (Went event))
went memory Stands catalog fuel m case goal event t e is there gone busy h =
    let to : goal.to ≡ pei_step catalog fuel m = sym (ap (in_case catalog fuel m) e ∙ is) in (
      busy,
      record {
        there = h.there ∙ sym (ap (case_placed catalog fuel m) e ∙ there);
        gone = h.gone ∙ sym (ap (case_taken catalog fuel m) e ∙ gone);
        again = subst (λ x. IsAgain m x event.again) to h.again;
        volumes = sym (ap (λ (x : PeiMachine). length x.reported) to) ∙ h.volumes;
      },
      subst (λ x. HasStepped Stands m x t) to h.stepped,
    )

-- a part of its lines
pub part : (catalog : Catalog) (fuel : ℕ) (m later : PeiMachine) (case : PeiCase) (t : Texts) → case_of catalog m ≡ case → in_case catalog fuel m case ≡ later → PrintedPart m later t → PrintedPart m (pei_step catalog fuel m) t
part catalog fuel m later case t e is h = subst (λ x. PrintedPart m x t) (sym (ap (in_case catalog fuel m) e ∙ is)) h

-- an end
pub ended : (memory : Bool) (Stands : PeiMachine → Type 0) (catalog : Catalog) (fuel : ℕ) (m : PeiMachine) (case : PeiCase) (end : PeiEnd) (t : Texts)
    → case_of catalog m ≡ case → in_case catalog fuel m case ≡ record m { ended = Some end } → IsCut end → HasStayed Stands m t → StepsTo memory Stands catalog fuel m t (Ok (Ended end))
ended memory Stands catalog fuel m case end t e is cut stayed = record { cut = cut; ended = ap (in_case catalog fuel m) e ∙ is; stayed = stayed }
