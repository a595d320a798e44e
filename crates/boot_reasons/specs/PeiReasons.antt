-- Why parts started in a run of PEI, and why others wait at its end. A run is given by its last machine and the machines before that one, the last of them first.
-- PI 1.8, volume 1, "PEI Dispatcher"; the reasons are own.
use Rattle.std.specs.Prelude.{ℕ, ◌-◌, List, [], ◌∷◌, ◌++◌, Option, Some, None, length, option_map, flat_map, take, option_to_list}
use Rattle.std.specs.Option.{option_or}
use Rattle.pi_base.specs.{declared.guid.Guid.Guid, declared.phase.Phase.TheVariants.Pei}
use Rattle.mod_catalog.specs.{declared.catalogue.Catalog.Catalog, declared.catalogue.Part.Part, Parts.part_at}
use Rattle.store_model.specs.{StoreState.StoreState, Service.Install.has_ppi}
use Rattle.boot_model.specs.{declared.line.Reason.Reason, Eligible.licence_at, PeiChoice.pei_order, PeiMachine.PeiMachine}
use Rattle.boot_model.specs.PeiStep.{reason_of}
use Rattle.boot_reasons.specs.{Moving.moved_between, Givers.actor_in, Givers.giver_along, Needs.needs_of}
use Rattle.explain_text.specs.{Change.change_for, declared.reasons.Begun.Begun, declared.reasons.Giver.Giver, declared.reasons.Held.Held}
use Rattle.explain_text.specs.declared.reasons.Moved.{Moved}

-- who has a PPI installed
abbrev pub pei_giver : List PeiMachine → PeiMachine → Guid → Giver
pei_giver earlier m = giver_along (λ (x : PeiMachine). has_ppi x.store) (λ x. actor_in x.frames) earlier m

-- what a list has in front of the one that it was
abbrev pub gained : List ℕ → List ℕ → List ℕ
gained before later = take (length later - length before) later

-- the modules that started in the step from a machine to a later one, second starts too
abbrev pub starts_between : PeiMachine → PeiMachine → List ℕ
starts_between before later = gained before.started later.started ++ gained before.again later.again

-- the start of a part from a machine
abbrev pub pei_begun_by : PeiMachine → (Guid → Giver) → ℕ → Part → Begun
pei_begun_by m giver number part = record { number = number; phase = Pei; licence = licence_at m number part; beside = None; needs = needs_of giver Pei part.expr }

-- the same by its number
abbrev pub pei_begun_at : Catalog → PeiMachine → (Guid → Giver) → ℕ → List Begun
pei_begun_at catalog m giver number = option_to_list (option_map (pei_begun_by m giver number) (part_at Pei catalog number))

-- the starts, in their order
abbrev pub pei_begun : Catalog → List PeiMachine → PeiMachine → List Begun
pei_begun catalog [] m = []
pei_begun catalog (before ∷ earlier) m =
    pei_begun catalog earlier before ++ flat_map (pei_begun_at catalog before (pei_giver earlier before)) (starts_between before m)

-- a part that waits
abbrev pub pei_held_by : StoreState → (Guid → Giver) → ℕ → Reason → Part → Held
pei_held_by s giver number reason part =
    record { number = number; phase = Pei; reason = reason; needs = needs_of giver Pei part.expr; change = change_for (has_ppi s) Pei part.expr }

-- the part of a module, if it waits by this reason
abbrev pub pei_held_for : Catalog → StoreState → (Guid → Giver) → ℕ → Option Reason → List Held
pei_held_for catalog s giver number None = []
pei_held_for catalog s giver number (Some reason) = option_to_list (option_map (pei_held_by s giver number reason) (part_at Pei catalog number))

-- those that wait in a machine, in PEI order
abbrev pub pei_held : Catalog → PeiMachine → (Guid → Giver) → List Held
pei_held catalog m giver = flat_map (λ number. pei_held_for catalog m.store giver number (reason_of catalog m number)) (pei_order catalog m.reported)

-- the move to permanent memory, if there was one
abbrev pub pei_moved : List PeiMachine → PeiMachine → Option Moved
pei_moved [] m = None
pei_moved (before ∷ earlier) m = option_or (pei_moved earlier before) (moved_between before.store m.store)
