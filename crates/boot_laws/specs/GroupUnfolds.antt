-- A group is made without a depth: it is the groups of those before its driver, the driver, and the groups of those after it. So a loop with a stack of drivers makes it.
-- It has no more drivers than wait, and each once.
-- Own; the groups are those of the companions that PI 1.8, volume 2, "Dependency Expressions", names BEFORE and AFTER.
use Rattle.std.specs.Prelude.{◌≡◌, ◌≤◌, ℕ, zero, suc, true, ◌∷◌, ◌++◌, Some, length, flat_map}
use Rattle.pi_base.specs.Lists.{Each}
use Rattle.mod_catalog.specs.{declared.catalogue.Catalog.Catalog, Parts.has_number}
use Rattle.boot_model.specs.{Licence.AllDiffer, DxeMachine.DxeMachine, DriverLicence.target_of}
use Rattle.boot_model.specs.DxeChoice.{waiting, befores, afters, companion_group, is_eligible_driver}

-- an eligible driver that waits
pub record IsRoot (catalog : Catalog) (m : DxeMachine) (root : ℕ) : Type 0 where
  pub eligible : is_eligible_driver catalog m root ≡ true
  pub waits : has_number (waiting catalog m) root ≡ true

-- so many names of drivers that wait lead from x to a root
abbrev pub StandsOver : Catalog → DxeMachine → ℕ → ℕ → ℕ → Type 0
StandsOver catalog m root zero x = x ≡ root
StandsOver catalog m root (suc k) x = (y : ℕ) × (target_of catalog m x ≡ Some y) × (has_number (waiting catalog m) x ≡ true) × StandsOver catalog m root k y

-- the root, or one of its companions at any depth
abbrev pub IsOver : Catalog → DxeMachine → ℕ → ℕ → Type 0
IsOver catalog m root x = (k : ℕ) × StandsOver catalog m root k x

-- the group of a driver over a root, whose companions are over the root too
pub record Unfolds (catalog : Catalog) (m : DxeMachine) (root x : ℕ) : Type 0 where
  pub group : companion_group catalog m x ≡ flat_map (companion_group catalog m) (befores catalog m x) ++ x ∷ flat_map (companion_group catalog m) (afters catalog m x)
  pub befores : Each (IsOver catalog m root) (befores catalog m x)
  pub afters : Each (IsOver catalog m root) (afters catalog m x)

abbrev pub GroupsUnfold : Type 0
GroupsUnfold = (catalog : Catalog) (m : DxeMachine) (root x : ℕ) → IsRoot catalog m root → IsOver catalog m root x → Unfolds catalog m root x

pub record IsGroupSmall (catalog : Catalog) (m : DxeMachine) (root : ℕ) : Type 0 where
  pub few : length (companion_group catalog m root) ≤ length (waiting catalog m)
  pub differ : AllDiffer (companion_group catalog m root)
  pub wait : Each (λ number. has_number (waiting catalog m) number ≡ true) (companion_group catalog m root)

-- if no volume was discovered twice
abbrev pub GroupsAreSmall : Type 0
GroupsAreSmall = (catalog : Catalog) (m : DxeMachine) (root : ℕ) → AllDiffer m.discovered → IsRoot catalog m root → IsGroupSmall catalog m root
