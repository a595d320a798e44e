-- What holds of each machine of a free boot in DXE, and how many steps it has left at most.
-- An action pays for two steps: itself, and a notification that begins after it. A frame that has just begun owes its first action. Own; PI 1.8, volume 2, does
-- not say that a run ends.
use Rattle.std.specs.Prelude.{◌≡◌, ◌≢◌, ℕ, zero, suc, ◌+◌, ◌-◌, ◌*◌, ◌≤◌, ◌<◌, true, List, [], ◌∷◌, Some, None, is_some, length, ⊤}
use Rattle.pi_base.specs.declared.phase.Phase.TheVariants.{Dxe}
use Rattle.pi_base.specs.Lists.{Each, Ordered, numbers}
use Rattle.mod_catalog.specs.{declared.catalogue.Catalog.Catalog, WellFormed.AreNumbered}
use Rattle.mod_catalog.specs.Parts.{has_number, part_at, module_volume}
use Rattle.store_model.specs.StoreState.{StoreState}
use Rattle.boot_model.specs.{DxeMachine.DxeMachine, DxeMachine.DriverFrame, DxeChoice.discovered_order, DxeChoice.waiting}
use Rattle.boot_model.specs.{DriverLicence.numbers_of, DxeStep.dxe_case_of, DxeRun.dxe_opening, DxeRun.dxe_bound, FreeRun.IsFreeInDxe}
use Rattle.boot_laws.specs.PeiUnderWay.{missing}

-- a frame that has just begun has no sweep
abbrev pub SweepsAreLater : List DriverFrame → Type 0
SweepsAreLater [] = ⊤
SweepsAreLater (frame ∷ below) = (frame.position ≡ 0 → frame.sweep ≡ None) × SweepsAreLater below

-- a driver of one of these volumes
abbrev pub IsDriverOf : Catalog → List ℕ → ℕ → Type 0
IsDriverOf catalog volumes number =
    (is_some (part_at Dxe catalog number) ≡ true) × (has_number volumes (module_volume catalog number) ≡ true)

-- no volume was discovered twice, and no driver is twice among those scheduled and started; each is of a discovered volume
pub record IsUnderWay (catalog : Catalog) (m : DxeMachine) : Type 0 where
  pub sweeps : SweepsAreLater m.frames
  pub volumes_differ : Ordered (λ a b. a ≢ b) m.discovered
  pub queue_differs : Ordered (λ a b. a ≢ b) (numbers_of m.scheduled)
  pub started_differ : Ordered (λ a b. a ≢ b) m.started
  pub apart : Each (λ next. Each (λ number. next ≢ number) m.started) (numbers_of m.scheduled)
  pub queue_known : Each (IsDriverOf catalog m.discovered) (numbers_of m.scheduled)
  pub started_known : Each (IsDriverOf catalog m.discovered) m.started

-- 0 if a frame has just begun and owes an action
abbrev pub between_actions : List DriverFrame → ℕ
between_actions [] = 1
between_actions (frame ∷ below) = elim frame.position [ zero ↦ 0 | suc n ↦ 1 ]

-- the steps that are left, if the machine has not ended
abbrev pub steps_before_end : Catalog → ℕ → DxeMachine → ℕ
steps_before_end catalog fuel m =
    1 + 2 * (fuel - m.actions) + between_actions m.frames + missing m.started (numbers 0 (length catalog.modules))

abbrev pub steps_left : Catalog → ℕ → DxeMachine → ℕ
steps_left catalog fuel m = elim m.ended [ Some end ↦ 0 | None ↦ steps_before_end catalog fuel m ]

-- the opening is under way, and has no more steps left than the bound
pub record IsUnderWayAtOpening (catalog : Catalog) (fuel : ℕ) (s : StoreState) (actions : ℕ) : Type 0 where
  pub way : IsUnderWay catalog (dxe_opening catalog s actions)
  pub few : steps_left catalog fuel (dxe_opening catalog s actions) ≤ dxe_bound catalog fuel

-- if each volume's parent comes before it
abbrev pub DxeOpensUnderWay : Type 0
DxeOpensUnderWay = (catalog : Catalog) (fuel : ℕ) (s : StoreState) (actions : ℕ) → AreNumbered 0 catalog.volumes
    → IsUnderWayAtOpening catalog fuel s actions

-- a later machine is under way too, and nearer to its end
pub record IsNearerEnd (catalog : Catalog) (fuel : ℕ) (m later : DxeMachine) : Type 0 where
  pub way : IsUnderWay catalog later
  pub less : steps_left catalog fuel later < steps_left catalog fuel m

-- each free step leads to such a machine
abbrev pub DxeStepsRunOut : Type 0
DxeStepsRunOut = (catalog : Catalog) (fuel : ℕ) (m later : DxeMachine) → AreNumbered 0 catalog.volumes → m.ended ≡ None
    → IsUnderWay catalog m
    → IsFreeInDxe catalog fuel m (dxe_case_of catalog m) later → IsNearerEnd catalog fuel m later

-- if no step is left the machine has ended
abbrev pub DxeHasEnded : Type 0
DxeHasEnded = (catalog : Catalog) (fuel : ℕ) (m : DxeMachine) → steps_left catalog fuel m ≡ 0 → is_some m.ended ≡ true

-- the drivers that wait, and those of the discovered order, are no more than the modules
pub record AreFewDrivers (catalog : Catalog) (m : DxeMachine) : Type 0 where
  pub order : length (discovered_order catalog m) ≤ length catalog.modules
  pub waiting : length (waiting catalog m) ≤ length catalog.modules

abbrev pub FewDriversWait : Type 0
FewDriversWait = (catalog : Catalog) (m : DxeMachine) → IsUnderWay catalog m → AreFewDrivers catalog m
