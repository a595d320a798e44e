-- The next driver: the head of the scheduled queue; if the queue is empty, the first of the group of the first eligible driver in discovered order. A driver
-- whose BEFORE or AFTER names another is its companion: it is never eligible by itself, and comes with the group of the driver that it names. PI 1.8, volume 2,
-- "DXE Dispatcher", "Dependency Expressions" and "A Priori File"; the order of companions is own.
use Rattle.std.specs.Prelude.{ℕ, zero, suc, Bool, false, ◌==◌, ◌&&◌, not, List, [], ◌∷◌, ◌++◌, length, map, Option, Some, None, filter, find, flat_map, option_and_then}
use Rattle.std.specs.List.{list_any, list_all}
use Rattle.pi_base.specs.{declared.guid.Guid.Guid, declared.phase.Phase.TheVariants.Dxe, Guids.same_guid}
use Rattle.depex_code.specs.declared.depex.Depex.{Depex}
use Rattle.depex_code.specs.declared.depex.Depex.TheVariants as D
use Rattle.boot_model.specs.{declared.known_guid.TheConstants.ARCHITECTURAL, declared.licence.Licence.Licence}
use Rattle.mod_catalog.specs.{declared.catalogue.Catalog.Catalog, declared.catalogue.Part.Part, declared.catalogue.PartExpr.PartExpr}
use Rattle.mod_catalog.specs.declared.catalogue.PartExpr.TheVariants as E
use Rattle.boot_model.specs.declared.licence.Licence.TheVariants as G
use Rattle.store_model.specs.HandleState.{HandleState, has_protocol}
use Rattle.boot_model.specs.{DxeMachine.DxeMachine, DxeMachine.Scheduled, Eligible.depex_holds, PeiChoice.ranked}
use Rattle.mod_catalog.specs.Parts.{has_number, part_at, rank_at, parts_in, module_name}

-- the drivers of volumes, by place in each
abbrev pub drivers_of : Catalog → List ℕ → List ℕ
drivers_of catalog volumes = flat_map (parts_in Dxe catalog) volumes

-- the drivers that volumes schedule when they are discovered
abbrev pub a_priori_drivers : Catalog → List ℕ → List Scheduled
a_priori_drivers catalog volumes =
    map (λ number. record { module_number = number; licence = G.Apriori }) (flat_map (λ volume. ranked (rank_at Dxe catalog) (parts_in Dxe catalog volume)) volumes)

-- the drivers in discovered order, and those of them that are neither scheduled nor started
abbrev pub discovered_order : Catalog → DxeMachine → List ℕ
discovered_order catalog m = drivers_of catalog m.discovered

-- whether a driver is in the queue
abbrev pub is_scheduled : DxeMachine → ℕ → Bool
is_scheduled m number = list_any (λ next. next.module_number == number) m.scheduled

-- whether a driver neither is in the queue nor has started
abbrev pub is_waiting : DxeMachine → ℕ → Bool
is_waiting m number = not (is_scheduled m number) && not (has_number m.started number)

-- the drivers that wait, in discovered order
abbrev pub waiting : Catalog → DxeMachine → List ℕ
waiting catalog m = filter (is_waiting m) (discovered_order catalog m)

-- whether an expression begins with SOR
abbrev pub is_sor : Depex → Bool
is_sor (D.Before name) = false
is_sor (D.After name) = false
is_sor (D.Expr sor node) = sor

-- whether the expression of a driver begins with SOR
abbrev pub asks_for_request : Option Part → Bool
asks_for_request None = false
asks_for_request (Some part) = elim part.expr [ E.Absent ↦ false | E.Malformed at ↦ false | E.Held expression ↦ is_sor expression ]

-- a driver with SOR that no module requested
abbrev pub is_unrequested : Catalog → DxeMachine → ℕ → Bool
is_unrequested catalog m number = asks_for_request (part_at Dxe catalog number) && not (has_number m.requested number)

-- whether an expression allows a driver to start over the handles; without one, it needs all architectural protocols
abbrev pub lets_driver_start : HandleState → PartExpr → Bool
lets_driver_start h E.Absent = list_all (has_protocol h) ARCHITECTURAL
lets_driver_start h (E.Malformed at) = false
lets_driver_start h (E.Held expression) = depex_holds (has_protocol h) expression

-- whether a driver's expression allows it to start
abbrev pub driver_may_start : HandleState → Option Part → Bool
driver_may_start h None = false
driver_may_start h (Some part) = lets_driver_start h part.expr

-- whether a driver may start: one with SOR must have been requested
abbrev pub is_eligible_driver : Catalog → DxeMachine → ℕ → Bool
is_eligible_driver catalog m number = not (is_unrequested catalog m number) && driver_may_start m.handles (part_at Dxe catalog number)

-- the driver of a file name: the first in discovered order
abbrev pub driver_named : Catalog → DxeMachine → Guid → Option ℕ
driver_named catalog m name = find (λ number. same_guid (module_name catalog number) name) (discovered_order catalog m)

-- the name after BEFORE
abbrev pub before_of : PartExpr → Option Guid
before_of E.Absent = None
before_of (E.Malformed at) = None
before_of (E.Held (D.Before name)) = Some name
before_of (E.Held (D.After name)) = None
before_of (E.Held (D.Expr sor node)) = None

-- the name after AFTER
abbrev pub after_of : PartExpr → Option Guid
after_of E.Absent = None
after_of (E.Malformed at) = None
after_of (E.Held (D.Before name)) = None
after_of (E.Held (D.After name)) = Some name
after_of (E.Held (D.Expr sor node)) = None

-- whether a driver that was found is this one
abbrev pub is_that : ℕ → Option ℕ → Bool
is_that target None = false
is_that target (Some number) = number == target

-- whether an expression names this driver
abbrev pub targets : Catalog → DxeMachine → ℕ → Option Guid → Bool
targets catalog m target name = is_that target (option_and_then (driver_named catalog m) name)

-- the name that one of the two forms of a driver's expression has
abbrev pub name_by : (PartExpr → Option Guid) → Catalog → ℕ → Option Guid
name_by form catalog number = option_and_then (λ part. form part.expr) (part_at Dxe catalog number)

-- the waiting drivers BEFORE a driver, in discovered order
abbrev pub befores : Catalog → DxeMachine → ℕ → List ℕ
befores catalog m target = filter (λ number. targets catalog m target (name_by before_of catalog number)) (waiting catalog m)

-- the waiting drivers AFTER a driver, in discovered order
abbrev pub afters : Catalog → DxeMachine → ℕ → List ℕ
afters catalog m target = filter (λ number. targets catalog m target (name_by after_of catalog number)) (waiting catalog m)

-- the groups of those before a driver, the driver, and the groups of those after it; companions of companions at most so deep
abbrev pub group_within : Catalog → DxeMachine → ℕ → ℕ → List ℕ
group_within catalog m zero number = number ∷ []
group_within catalog m (suc deep) number =
    flat_map (group_within catalog m deep) (befores catalog m number) ++ number ∷ flat_map (group_within catalog m deep) (afters catalog m number)

-- the group of a driver: no chain of companions is longer than the waiting drivers
abbrev pub companion_group : Catalog → DxeMachine → ℕ → List ℕ
companion_group catalog m number = group_within catalog m (length (waiting catalog m)) number

-- the licence of a driver in a group
abbrev pub licence_in_group : PartExpr → Licence
licence_in_group E.Absent = G.Absent
licence_in_group (E.Malformed at) = G.True
licence_in_group (E.Held (D.Before name)) = G.Before
licence_in_group (E.Held (D.After name)) = G.After
licence_in_group (E.Held (D.Expr sor node)) = G.True

-- the licence of a driver with this part
abbrev pub driver_licence : Option Part → Licence
driver_licence None = G.True
driver_licence (Some part) = licence_in_group part.expr

-- these drivers, each with its licence
abbrev pub schedule_of : Catalog → List ℕ → List Scheduled
schedule_of catalog numbers = map (λ number. record { module_number = number; licence = driver_licence (part_at Dxe catalog number) }) numbers

-- the queue, or if it is empty the group of the first eligible driver that waits
abbrev pub queue_from : List Scheduled → List Scheduled → List Scheduled
queue_from [] group = group
queue_from (first ∷ rest) group = first ∷ rest

-- the first driver in discovered order that waits and may start
abbrev pub first_eligible : Catalog → DxeMachine → Option ℕ
first_eligible catalog m = find (is_eligible_driver catalog m) (waiting catalog m)

-- what is scheduled with a driver: its group, or nothing if there is no driver
abbrev pub group_scheduled : Catalog → DxeMachine → Option ℕ → List Scheduled
group_scheduled catalog m None = []
group_scheduled catalog m (Some number) = schedule_of catalog (companion_group catalog m number)

-- what starts from here on
abbrev pub driver_queue : Catalog → DxeMachine → List Scheduled
driver_queue catalog m = queue_from m.scheduled (group_scheduled catalog m (first_eligible catalog m))

-- the first of a queue and the rest
abbrev pub head_of : List Scheduled → Option (Scheduled × List Scheduled)
head_of [] = None
head_of (first ∷ rest) = Some (first, rest)

-- the next driver, and the queue after it
abbrev pub next_driver : Catalog → DxeMachine → Option (Scheduled × List Scheduled)
next_driver catalog m = head_of (driver_queue catalog m)
