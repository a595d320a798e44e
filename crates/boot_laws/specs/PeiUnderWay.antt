-- What holds of each machine of a free boot in PEI, and how many steps it has left at most.
-- An action pays for two steps: itself, and a notification that begins after it. A frame that has just begun owes its first action. Own; PI 1.8, volume 1, does
-- not say that a run ends.
use Rattle.std.specs.Prelude.{◌≡◌, ℕ, zero, suc, ◌+◌, ◌-◌, ◌*◌, ◌≤◌, ◌<◌, Bool, true, false, not, List, [], ◌∷◌, Some, None, is_some, length, ⊤}
use Rattle.pi_base.specs.{declared.phase.Phase.TheVariants.Pei, Lists.Each, Lists.numbers}
use Rattle.mod_catalog.specs.{declared.catalogue.Catalog.Catalog, Parts.has_number, Parts.part_at}
use Rattle.store_model.specs.StoreState.{Board}
use Rattle.boot_model.specs.{PeiMachine.PeiMachine, PeiMachine.Frame, PeiRun.pei_opening, PeiRun.pei_bound, FreeRun.IsFreePeiStep}

-- a frame that has just begun has no sweep
abbrev pub SweepsAreLater : List Frame → Type 0
SweepsAreLater [] = ⊤
SweepsAreLater (frame ∷ below) = (frame.position ≡ 0 → frame.sweep ≡ None) × SweepsAreLater below

-- what has started has a part
pub record IsUnderWay (catalog : Catalog) (m : PeiMachine) : Type 0 where
  pub sweeps : SweepsAreLater m.frames
  pub parts : Each (λ number. is_some (part_at Pei catalog number) ≡ true) m.started

-- 0 if a frame has just begun and owes an action
abbrev pub between_actions : List Frame → ℕ
between_actions [] = 1
between_actions (frame ∷ below) = elim frame.position [ zero ↦ 0 | suc n ↦ 1 ]

abbrev pub one_if : Bool → ℕ
one_if true = 1
one_if false = 0

-- how many of these are not among those
abbrev pub missing : List ℕ → List ℕ → ℕ
missing among [] = 0
missing among (n ∷ ns) = one_if (not (has_number among n)) + missing among ns

-- the first starts and the second starts that are left
abbrev pub starts_left : Catalog → PeiMachine → ℕ
starts_left catalog m = missing m.started (numbers 0 (length catalog.modules)) + missing m.again (numbers 0 (length catalog.modules))

-- the steps that are left, if the machine has not ended
abbrev pub steps_before_end : Catalog → ℕ → PeiMachine → ℕ
steps_before_end catalog fuel m = 1 + 2 * (fuel - m.actions) + between_actions m.frames + starts_left catalog m + one_if (not m.store.moved)

abbrev pub steps_left : Catalog → ℕ → PeiMachine → ℕ
steps_left catalog fuel m = elim m.ended [ Some end ↦ 0 | None ↦ steps_before_end catalog fuel m ]

-- the opening is under way, and has no more steps left than the bound
pub record IsUnderWayAtOpening (board : Board) (catalog : Catalog) (fuel : ℕ) : Type 0 where
  pub way : IsUnderWay catalog (pei_opening board catalog)
  pub few : steps_left catalog fuel (pei_opening board catalog) ≤ pei_bound catalog fuel

abbrev pub PeiOpensUnderWay : Type 0
PeiOpensUnderWay = (board : Board) (catalog : Catalog) (fuel : ℕ) → IsUnderWayAtOpening board catalog fuel

-- a later machine is under way too, and nearer to its end
pub record IsNearerEnd (catalog : Catalog) (fuel : ℕ) (m later : PeiMachine) : Type 0 where
  pub way : IsUnderWay catalog later
  pub less : steps_left catalog fuel later < steps_left catalog fuel m

-- each free step leads to such a machine
abbrev pub PeiStepsRunOut : Type 0
PeiStepsRunOut = (catalog : Catalog) (fuel : ℕ) (m later : PeiMachine) → m.ended ≡ None → IsUnderWay catalog m
    → IsFreePeiStep catalog fuel m later → IsNearerEnd catalog fuel m later

-- if no step is left the machine has ended
abbrev pub PeiHasEnded : Type 0
PeiHasEnded = (catalog : Catalog) (fuel : ℕ) (m : PeiMachine) → steps_left catalog fuel m ≡ 0 → is_some m.ended ≡ true
