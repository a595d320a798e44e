-- The choice of a driver by a text: the driver whose start is the text's next line, and the driver to which its BEFORE or AFTER leads.
-- Own; PI 1.8, volume 2, "DXE Dispatcher", leaves the order of the drivers that may start to the dispatcher.
use Rattle.std.specs.Prelude.{◌≡◌, ℕ, List, ◌∷◌, ◌++◌, Option, Some}
use Rattle.mod_catalog.specs.declared.catalogue.Catalog.{Catalog}
use Rattle.boot_model.specs.{declared.driver.Scheduled.Scheduled, DxeChoice.group_scheduled, DxeMachine.DxeMachine, DxeStep.dxe_start_line}
use Rattle.boot_model.specs.{FreeRun.MaySchedule, Text.line_text}

-- the bytes begin with the line of the start of a driver
pub record BeginsWithStart (catalog : Catalog) (next : Scheduled) (bytes : List ℕ) : Type 0 where
  pub more : List ℕ
  pub is : bytes ≡ line_text (dxe_start_line catalog next.module_number next.licence) ++ more

-- if the bytes begin with the start of the first of a group that may be scheduled, this is the driver of the group
abbrev pub LeadsTo : Catalog → DxeMachine → List ℕ → Option ℕ → Type 0
LeadsTo catalog m bytes root =
    (other : ℕ) (first : Scheduled) (rest : List Scheduled) → MaySchedule catalog m other → group_scheduled catalog m (Some other) ≡ first ∷ rest
    → BeginsWithStart catalog first bytes → root ≡ Some other
