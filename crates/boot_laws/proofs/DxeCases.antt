-- What each case of a step of DXE tells of the machine.
use Rattle.std.proofs.Common.{◌≡◌, true, List, [], ◌∷◌, Option, Some, None, refl, is_some, ap, option_and_then}
use Rattle.mod_catalog.specs.declared.catalogue.Catalog.{Catalog}
use Rattle.boot_model.specs.{DxeMachine.DriverFrame, DxeMachine.DxeMachine, declared.driver.ProtocolNote.ProtocolNote}
use Rattle.boot_model.specs.{declared.driver.ProtocolSweep.ProtocolSweep, declared.driver.Scheduled.Scheduled}
use Rattle.boot_model.specs.DxeChoice.{driver_queue, head_of}
use Rattle.boot_model.specs.DxeStep.{DxeCase, DxeFires, DxeActs, DxeStarts, DxeStops, next_note, dxe_case_in, queue_case}

-- the case of a frame, by the notification that its sweep has next
abbrev case_by : Option (ProtocolNote × ProtocolSweep) → DriverFrame → List DriverFrame → DxeCase
case_by o frame below = elim o [ None ↦ DxeActs frame below | Some pair ↦ DxeFires pair.0 pair.1 frame below ]

abbrev FiresFrom : DxeMachine → List DriverFrame → DriverFrame → List DriverFrame → Type 0
FiresFrom m frames frame below = (frames ≡ frame ∷ below) × (is_some (option_and_then (next_note m) frame.sweep) ≡ true)

fires_by : (o : Option (ProtocolNote × ProtocolSweep)) (top : DriverFrame) (rest : List DriverFrame) (note : ProtocolNote) (sweep : ProtocolSweep) (frame : DriverFrame) (below : List DriverFrame)
    → case_by o top rest ≡ DxeFires note sweep frame below → (top ≡ frame) × (rest ≡ below) × (is_some o ≡ true)
fires_by None top rest note sweep frame below h = cc
fires_by (Some pair) top rest note sweep frame below h = let a : top ≡ frame = cc in let b : rest ≡ below = cc in (a, b, refl)

not_fires : (q : List Scheduled) (note : ProtocolNote) (sweep : ProtocolSweep) (frame : DriverFrame) (below : List DriverFrame) → queue_case (head_of q) ≡ DxeFires note sweep frame below → ⊥
not_fires [] note sweep frame below h = cc
not_fires (first ∷ rest) note sweep frame below h = cc

pub fires_from : (catalog : Catalog) (m : DxeMachine) (frames : List DriverFrame) (note : ProtocolNote) (sweep : ProtocolSweep) (frame : DriverFrame) (below : List DriverFrame)
    → dxe_case_in catalog m frames ≡ DxeFires note sweep frame below → FiresFrom m frames frame below
fires_from catalog m [] note sweep frame below h = absurd (not_fires (driver_queue catalog m) note sweep frame below h)
fires_from catalog m (top ∷ rest) note sweep frame below h =
    let told = fires_by (option_and_then (next_note m) top.sweep) top rest note sweep frame below h in
    let a = told.0 in
    let b = told.1 in
    let frames_are : top ∷ rest ≡ frame ∷ below = cc in
    let sweeps : top.sweep ≡ frame.sweep = ap (λ f. f.sweep) a in
    let some = told.2 in
    (frames_are, rw sweeps at some)

acts_by : (o : Option (ProtocolNote × ProtocolSweep)) (top : DriverFrame) (rest : List DriverFrame) (frame : DriverFrame) (below : List DriverFrame) → case_by o top rest ≡ DxeActs frame below → (top ≡ frame) × (rest ≡ below)
acts_by None top rest frame below h = let a : top ≡ frame = cc in let b : rest ≡ below = cc in (a, b)
acts_by (Some pair) top rest frame below h = cc

not_acts : (q : List Scheduled) (frame : DriverFrame) (below : List DriverFrame) → queue_case (head_of q) ≡ DxeActs frame below → ⊥
not_acts [] frame below h = cc
not_acts (first ∷ rest) frame below h = cc

pub acts_from : (catalog : Catalog) (m : DxeMachine) (frames : List DriverFrame) (frame : DriverFrame) (below : List DriverFrame) → dxe_case_in catalog m frames ≡ DxeActs frame below → frames ≡ frame ∷ below
acts_from catalog m [] frame below h = absurd (not_acts (driver_queue catalog m) frame below h)
acts_from catalog m (top ∷ rest) frame below h =
    let told = acts_by (option_and_then (next_note m) top.sweep) top rest frame below h in
    let a = told.0 in
    let b = told.1 in cc

starts_by : (q : List Scheduled) (next : Scheduled) (queue : List Scheduled) → queue_case (head_of q) ≡ DxeStarts next queue → q ≡ next ∷ queue
starts_by [] next queue h = cc
starts_by (first ∷ rest) next queue h = let a : first ≡ next = cc in let b : rest ≡ queue = cc in cc

not_starts : (o : Option (ProtocolNote × ProtocolSweep)) (top : DriverFrame) (rest : List DriverFrame) (next : Scheduled) (queue : List Scheduled) → case_by o top rest ≡ DxeStarts next queue → ⊥
not_starts None top rest next queue h = cc
not_starts (Some pair) top rest next queue h = cc

pub starts_from : (catalog : Catalog) (m : DxeMachine) (frames : List DriverFrame) (next : Scheduled) (queue : List Scheduled)
    → dxe_case_in catalog m frames ≡ DxeStarts next queue → (frames ≡ []) × (driver_queue catalog m ≡ next ∷ queue)
starts_from catalog m [] next queue h = (refl, starts_by (driver_queue catalog m) next queue h)
starts_from catalog m (top ∷ rest) next queue h = absurd (not_starts (option_and_then (next_note m) top.sweep) top rest next queue h)

stops_by : (q : List Scheduled) → queue_case (head_of q) ≡ DxeStops → q ≡ []
stops_by [] h = refl
stops_by (first ∷ rest) h = cc

not_stops : (o : Option (ProtocolNote × ProtocolSweep)) (top : DriverFrame) (rest : List DriverFrame) → case_by o top rest ≡ DxeStops → ⊥
not_stops None top rest h = cc
not_stops (Some pair) top rest h = cc

pub stops_from : (catalog : Catalog) (m : DxeMachine) (frames : List DriverFrame) → dxe_case_in catalog m frames ≡ DxeStops → driver_queue catalog m ≡ []
stops_from catalog m [] h = stops_by (driver_queue catalog m) h
stops_from catalog m (top ∷ rest) h = absurd (not_stops (option_and_then (next_note m) top.sweep) top rest h)
