-- Why drivers started in a run of DXE, and why others wait at its end. A run is given by its last machine and the machines from which its steps were taken, the last of them first.
-- PI 1.8, volume 2, "DXE Dispatcher"; the reasons are own.
use Rattle.std.specs.Prelude.{ℕ, List, [], ◌∷◌, ◌++◌, Option, None, option_map, flat_map, option_to_list}
use Rattle.pi_base.specs.{declared.guid.Guid.Guid, declared.phase.Phase.TheVariants.Dxe}
use Rattle.mod_catalog.specs.{declared.catalogue.Catalog.Catalog, declared.catalogue.Part.Part, Parts.part_at}
use Rattle.store_model.specs.HandleState.{has_protocol}
use Rattle.boot_model.specs.{declared.licence.Licence.Licence, DriverLicence.target_of, DxeChoice.waiting}
use Rattle.boot_model.specs.declared.licence.Licence.TheVariants as G
use Rattle.boot_model.specs.{declared.driver.Scheduled.Scheduled, DxeMachine.DxeMachine}
use Rattle.boot_model.specs.DxeStep.{DxeCase, DxeFires, DxeActs, DxeStarts, DxeStops, driver_reason, dxe_case_of}
use Rattle.boot_reasons.specs.{Givers.actor_in, Givers.giver_along, Needs.needs_of}
use Rattle.explain_text.specs.{Change.change_for, declared.reasons.Begun.Begun, declared.reasons.Giver.Giver, declared.reasons.Held.Held}

-- who has a protocol installed
abbrev pub dxe_giver : List DxeMachine → DxeMachine → Guid → Giver
dxe_giver earlier m = giver_along (λ (x : DxeMachine). has_protocol x.handles) (λ x. actor_in x.frames) earlier m

-- the driver beside which a companion starts: the one that its BEFORE or AFTER names
abbrev pub beside_by : Catalog → DxeMachine → ℕ → Licence → Option ℕ
beside_by catalog m number G.Apriori = None
beside_by catalog m number G.Absent = None
beside_by catalog m number G.True = None
beside_by catalog m number G.Shadow = None
beside_by catalog m number G.Before = target_of catalog m number
beside_by catalog m number G.After = target_of catalog m number

-- the start of a driver
abbrev pub dxe_begun_by : Catalog → DxeMachine → (Guid → Giver) → Scheduled → Part → Begun
dxe_begun_by catalog m giver next part = record {
  number = next.module_number;
  phase = Dxe;
  licence = next.licence;
  beside = beside_by catalog m next.module_number next.licence;
  needs = needs_of giver Dxe part.expr;
}

-- the same by its number
abbrev pub dxe_begun_at : Catalog → DxeMachine → (Guid → Giver) → Scheduled → List Begun
dxe_begun_at catalog m giver next = option_to_list (option_map (dxe_begun_by catalog m giver next) (part_at Dxe catalog next.module_number))

-- the start that a step is, by what comes next
abbrev pub dxe_begun_in : Catalog → DxeMachine → (Guid → Giver) → DxeCase → List Begun
dxe_begun_in catalog m giver (DxeFires note sweep frame below) = []
dxe_begun_in catalog m giver (DxeActs frame below) = []
dxe_begun_in catalog m giver (DxeStarts next queue) = dxe_begun_at catalog m giver next
dxe_begun_in catalog m giver DxeStops = []

-- the starts, in their order
abbrev pub dxe_begun : Catalog → List DxeMachine → List Begun
dxe_begun catalog [] = []
dxe_begun catalog (before ∷ earlier) = dxe_begun catalog earlier ++ dxe_begun_in catalog before (dxe_giver earlier before) (dxe_case_of catalog before)

-- a driver that waits
abbrev pub dxe_held_by : Catalog → DxeMachine → (Guid → Giver) → ℕ → Part → Held
dxe_held_by catalog m giver number part = record {
  number = number;
  phase = Dxe;
  reason = driver_reason catalog m number;
  needs = needs_of giver Dxe part.expr;
  change = change_for (has_protocol m.handles) Dxe part.expr;
}

-- the same by its number
abbrev pub dxe_held_at : Catalog → DxeMachine → (Guid → Giver) → ℕ → List Held
dxe_held_at catalog m giver number = option_to_list (option_map (dxe_held_by catalog m giver number) (part_at Dxe catalog number))

-- those that wait in a machine, in discovered order
abbrev pub dxe_held : Catalog → DxeMachine → (Guid → Giver) → List Held
dxe_held catalog m giver = flat_map (dxe_held_at catalog m giver) (waiting catalog m)
