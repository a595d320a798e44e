-- What a step is where no script runs: the start of the next driver, or the stop.
use Rattle.std.proofs.Common.{◌≡◌, ℕ, ◌+◌, true, List, ◌∷◌, length, Option, Some, None, refl, ap, ◌∙◌, is_some, arith}
use Rattle.pi_base.specs.declared.phase.Phase.TheVariants.{Dxe}
use Rattle.mod_catalog.specs.{declared.catalogue.Catalog.Catalog, declared.catalogue.Part.Part, Parts.part_at}
use Rattle.boot_model.specs.{declared.driver.Scheduled.Scheduled, DxeChoice.next_driver, DxeMachine.DxeMachine}
use Rattle.boot_model.specs.DxeStep.{DxeStarts, DxeStops, dxe_case_in, dxe_case_of, in_dxe_case, queue_case, dxe_step, dxe_stopped, driver_started}
use Rattle.dxe_dispatch.specs.Queue.{Queue, IsQueueOf, IsDriver, IsNext}
use Rattle.dxe_core.specs.Steps.{IsIdle}

pub case_starts : (catalog : Catalog) (m : DxeMachine) (next : Scheduled) (rest : List Scheduled) → IsIdle m → next_driver catalog m ≡ Some (next, rest) → dxe_case_of catalog m ≡ DxeStarts next rest
case_starts catalog m next rest idle found = ap (dxe_case_in catalog m) idle ∙ ap queue_case found

pub case_stops : (catalog : Catalog) (m : DxeMachine) → IsIdle m → next_driver catalog m ≡ None → dxe_case_of catalog m ≡ DxeStops
case_stops catalog m idle none = ap (dxe_case_in catalog m) idle ∙ ap queue_case none

pub step_starts : (catalog : Catalog) (fuel : ℕ) (m : DxeMachine) (next : Scheduled) (rest : List Scheduled) → IsIdle m → next_driver catalog m ≡ Some (next, rest)
    → dxe_step catalog fuel m ≡ driver_started catalog m next rest (part_at Dxe catalog next.module_number)
step_starts catalog fuel m next rest idle found = ap (in_dxe_case catalog fuel m) (case_starts catalog m next rest idle found)

queue_by : (catalog : Catalog) (m : DxeMachine) (next : Scheduled) (later : Queue) (chosen : IsNext catalog m next later) (part : Option Part) → is_some part ≡ true
    → IsQueueOf catalog (driver_started catalog m next chosen.rest part) later
queue_by catalog m next later chosen None some = cc
queue_by catalog m next later chosen (Some part) some = chosen.behind (driver_started catalog m next chosen.rest (Some part)) (record { scheduled = refl; started = refl; discovered = refl; requested = refl; handles = refl })

-- the queue behind the start of the driver that comes next
pub started_queue : (catalog : Catalog) (m : DxeMachine) (next : Scheduled) (later : Queue) (chosen : IsNext catalog m next later) → IsDriver catalog next
    → IsQueueOf catalog (driver_started catalog m next chosen.rest (part_at Dxe catalog next.module_number)) later
started_queue catalog m next later chosen driver = queue_by catalog m next later chosen (part_at Dxe catalog next.module_number) driver

pub step_stops : (catalog : Catalog) (fuel : ℕ) (m : DxeMachine) → IsIdle m → next_driver catalog m ≡ None → dxe_step catalog fuel m ≡ dxe_stopped catalog m
step_stops catalog fuel m idle none = ap (in_dxe_case catalog fuel m) (case_stops catalog m idle none)

-- the driver that comes next has left the queue
pub left_queue : (catalog : Catalog) (m : DxeMachine) (next : Scheduled) (later : Queue) → IsNext catalog m next later → later.left ≡ length m.started + 1
left_queue catalog m next later chosen =
    let begun : DxeMachine = record m { scheduled = chosen.rest; started = next.module_number ∷ m.started } in
    let left = (chosen.behind begun (record { scheduled = refl; started = refl; discovered = refl; requested = refl; handles = refl })).left in
    omega (arith, left)
