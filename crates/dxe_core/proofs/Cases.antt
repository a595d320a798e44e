-- Which case of a step applies, and what the step's answer then says.
use Rattle.std.proofs.Common.{◌≡◌, ℕ, Bool, true, false, Bor, List, [], ◌∷◌, ◌++◌, Option, Some, None, refl, sym, ap, ◌∙◌, subst, Result, Ok, Err, ◌↔◌, is_none, is_some, IfSome, IsTrue, not, option_copied, option_to_list, append-nil}
use Rattle.boot_io.specs.declared.halt.Halt.{Halt}
use Rattle.mod_catalog.specs.{declared.catalogue.Catalog.Catalog, Parts.has_number}
use Rattle.store_model.specs.StoreState.{StoreState}
use Rattle.boot_model.specs.{declared.driver.ProtocolNote.ProtocolNote, declared.driver.ProtocolSweep.ProtocolSweep}
use Rattle.boot_model.specs.{declared.phase_end.DxeEnd.DxeEnd, DxeChoice.a_priori_drivers, DxeChoice.drivers_of}
use Rattle.boot_model.specs.{DxeMachine.DxeMachine, DxeMachine.DriverFrame, EvaluationBound.dxe_case_guids}
use Rattle.boot_model.specs.DxeStep.{DxeCase, DxeFires, DxeActs, dxe_case_in, dxe_case_of, dxe_step, in_dxe_case}
use Rattle.boot_laws.specs.ChangedGuids.{is_among}
use Rattle.phase_parts.specs.Frames.{top_of}
use Rattle.dxe_core.specs.{declared.event.Event.Event, declared.stepped.Stepped.Stepped, Event.EventLeaves, Event.quiet}
use Rattle.dxe_core.specs.declared.stepped.Stepped.TheVariants.{Went, Idle, Ended}
use Rattle.dxe_core.specs.Parts.{FiresNext, GoesOnWith, next_of_top}
use Rattle.dxe_core.specs.{Standing.DxeCore, Standing.StandsFor, Turn.PrintedPart}
use Rattle.dxe_core.specs.Steps.{HasOver, IsAsBefore, HasStepped, IsCut, IsIdle, StepsTo}
use Rattle.boot_trace.specs.Printing.{Texts}
use Rattle.dxe_core.proofs.ProtocolChanges.{protocols_change}

-- by what the top frame's sweep gives
abbrev by : DriverFrame → List DriverFrame → Option (ProtocolNote × ProtocolSweep) → DxeCase
by top below next = elim next [ None ↦ DxeActs top below | Some pair ↦ DxeFires pair.0 pair.1 top below ]

pub case_fires : (catalog : Catalog) (m : DxeMachine) (next : ProtocolNote × ProtocolSweep) (top : DriverFrame) (below : List DriverFrame) → m.frames ≡ top ∷ below → FiresNext (Some next) m top
    → dxe_case_of catalog m ≡ DxeFires next.0 next.1 top below
case_fires catalog m next top below frames fires = ap (dxe_case_in catalog m) frames ∙ ap (by top below) fires

pub case_acts : (catalog : Catalog) (m : DxeMachine) (top : DriverFrame) (below : List DriverFrame) → m.frames ≡ top ∷ below → FiresNext None m top → dxe_case_of catalog m ≡ DxeActs top below
case_acts catalog m top below frames fires = ap (dxe_case_in catalog m) frames ∙ ap (by top below) fires

-- a script runs
pub is_busy : (m : DxeMachine) (frames : List DriverFrame) (top : DriverFrame) (below : List DriverFrame) → m.frames ≡ frames → frames ≡ top ∷ below → IsIdle m → ⊥
is_busy m [] top below e f idle = cc
is_busy m (frame ∷ frames) top below e f idle = cc

pub is_there : (found : Option (Bor DriverFrame)) (frames : List DriverFrame) (none : Bool) → option_copied found ≡ top_of frames → is_some found ≡ not none → none ≡ false → is_none (top_of frames) ≡ false
is_there None frames none is some e = cc
is_there (Some top) frames none is some e = ap is_none (sym is)

-- or none does
pub none_stands : (found : Option (Bor DriverFrame)) (frames : List DriverFrame) (none : Bool) → option_copied found ≡ top_of frames → is_some found ≡ not none → IsTrue none ↔ (frames ≡ [])
none_stands None [] true is some = (λ _. refl, λ _. refl)
none_stands None [] false is some = cc
none_stands None (top ∷ below) none is some = cc
none_stands (Some top) [] none is some = cc
none_stands (Some found) (top ∷ below) true is some = cc
none_stands (Some found) (top ∷ below) false is some = (λ h. cc, λ h. cc)

-- and so it goes on
pub runs_with : (next : Option (ProtocolNote × ProtocolSweep)) (m : DxeMachine) (frames : List DriverFrame) → m.frames ≡ frames → is_none (top_of frames) ≡ false → next ≡ next_of_top m frames → GoesOnWith next m
runs_with next m [] e some is = cc
runs_with next m (top ∷ below) e some is = record { top = top; below = below; frames = e; fires = sym is }

-- no volume was discovered, and no driver requested
pub quiet_leaves : (catalog : Catalog) (m later : DxeMachine) → later.discovered ≡ m.discovered → later.scheduled ≡ m.scheduled → later.started ≡ m.started → later.requested ≡ m.requested → EventLeaves catalog quiet m later
quiet_leaves catalog m later discovered scheduled started requested =
    record {
      volumes = [];
      count = refl;
      discovered = discovered ∙ sym (append-nil m.discovered);
      scheduled = scheduled ∙ sym (append-nil m.scheduled);
      started = started;
      requested = requested ∙ sym (append-nil m.requested);
      in_order = tt;
    }

-- the same, from a machine with the same queue
pub leaves_from : (catalog : Catalog) (event : Event) (m other later : DxeMachine) → m.discovered ≡ other.discovered → m.scheduled ≡ other.scheduled → m.started ≡ other.started → m.requested ≡ other.requested
    → EventLeaves catalog event m later → EventLeaves catalog event other later
leaves_from catalog event m other later discovered scheduled started requested h = record {
  volumes = h.volumes;
  count = h.count;
  discovered = h.discovered ∙ ap (λ xs. xs ++ h.volumes) discovered;
  scheduled = subst (λ xs. later.scheduled ≡ xs ++ a_priori_drivers catalog h.volumes) scheduled h.scheduled;
  started = h.started ∙ started;
  requested = h.requested ∙ ap (λ xs. xs ++ option_to_list event.requested) requested;
  in_order = subst (λ volumes. IfSome event.requested (λ number. has_number (drivers_of catalog volumes) number ≡ true)) discovered h.in_order;
}

-- to a machine that is the same one
leaves_to : (catalog : Catalog) (event : Event) (m later same : DxeMachine) → same ≡ later → EventLeaves catalog event m later → EventLeaves catalog event m same
leaves_to catalog event m later same is h = subst (EventLeaves catalog event m) (sym is) h

-- an event of a case
pub went : (Stands : DxeMachine → Type 0) (catalog : Catalog) (fuel : ℕ) (m later : DxeMachine) (case : DxeCase) (event : Event) (answer : Stepped) (t : Texts)
    → dxe_case_of catalog m ≡ case → in_dxe_case catalog fuel m case ≡ later → (IsIdle m → ⊥)
    → option_to_list event.changed ≡ dxe_case_guids catalog fuel m case → EventLeaves catalog event m later → answer ≡ Went event
    → HasStepped Stands m later t → StepsTo Stands catalog fuel m t (Ok answer)
went Stands catalog fuel m later case event answer t e is busy changed left answered h =
    let to : dxe_step catalog fuel m ≡ later = ap (in_dxe_case catalog fuel m) e ∙ is in
    subst (λ x. StepsTo Stands catalog fuel m t (Ok x)) (sym answered) (
      busy,
      record {
        changed = changed ∙ ap (dxe_case_guids catalog fuel m) (sym e);
        others = λ guid none. protocols_change catalog fuel m guid (ap (is_among guid) (sym (changed ∙ ap (dxe_case_guids catalog fuel m) (sym e))) ∙ none);
        left = leaves_to catalog event m later (dxe_step catalog fuel m) to left;
      },
      subst (λ x. HasStepped Stands m x t) (sym to) h,
    )

-- a part of its lines
pub part : (catalog : Catalog) (fuel : ℕ) (m later : DxeMachine) (case : DxeCase) (t : Texts) → dxe_case_of catalog m ≡ case → in_dxe_case catalog fuel m case ≡ later → PrintedPart m later t → PrintedPart m (dxe_step catalog fuel m) t
part catalog fuel m later case t e is h = subst (λ x. PrintedPart m x t) (sym (ap (in_dxe_case catalog fuel m) e ∙ is)) h

-- an end
pub ended : (Stands : DxeMachine → Type 0) (catalog : Catalog) (fuel : ℕ) (m : DxeMachine) (case : DxeCase) (end : DxeEnd) (t : Texts)
    → dxe_case_of catalog m ≡ case → in_dxe_case catalog fuel m case ≡ record m { ended = Some end } → IsCut end → IsAsBefore Stands m t → StepsTo Stands catalog fuel m t (Ok (Ended end))
ended Stands catalog fuel m case end t e is cut stayed = record { cut = cut; ended = ap (in_dxe_case catalog fuel m) e ∙ is; stayed = stayed }

-- over the same store, the core stands for the machine beside it
beside : {M : Type 0} (stands : M → StoreState → Type 0) (held : M) (catalog : Catalog) (kept : DxeCore) (before m : DxeMachine) → stands held before.store → HasOver catalog kept before m → StandsFor stands held catalog kept m
beside stands held catalog kept before m store has = record { store = subst (stands held) (sym has.store) store; core = has.core }

pub over : (result : Result Stepped Halt) {M : Type 0} (stands : M → StoreState → Type 0) (held : M) (catalog : Catalog) (kept : DxeCore) (fuel : ℕ) (m : DxeMachine) (t : Texts) → stands held m.store
    → StepsTo (HasOver catalog kept m) catalog fuel m t result → StepsTo (StandsFor stands held catalog kept) catalog fuel m t result
over (Ok (Went event)) stands held catalog kept fuel m t store h =
    (h.0, h.1, record { printed = h.2.printed; machine = beside stands held catalog kept m (dxe_step catalog fuel m) store h.2.machine })
over (Ok Idle) stands held catalog kept fuel m t store h = (h.0, record { text = h.1.text; machine = beside stands held catalog kept m m store h.1.machine })
over (Ok (Ended end)) stands held catalog kept fuel m t store h =
    record { cut = h.cut; ended = h.ended; stayed = record { text = h.stayed.text; machine = beside stands held catalog kept m m store h.stayed.machine } }
over (Err halt) stands held catalog kept fuel m t store h = h
