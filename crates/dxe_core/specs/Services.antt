-- What the services of DXE act on: the handles, the notifications, the discovered volumes with their drivers, and which drivers were requested. Own; PI 1.8,
-- volume 2.
use Rattle.std.specs.Prelude.{◌≡◌, ◌≤◌, ℕ, Bool, false, List, length, slice_get, unwrap_or}
use Rattle.mod_catalog.specs.{declared.catalogue.Catalog.Catalog, Parts.has_number}
use Rattle.store_model.specs.HandleState.{HandleState}
use Rattle.boot_model.specs.{declared.driver.ProtocolNote.ProtocolNote, DxeMachine.DxeMachine}
use Rattle.dxe_core.specs.Order.{Drivers, IsOrderOf}

-- what is kept
pub record Services : Type 0 where
  pub handles : HandleState
  pub notes : List ProtocolNote
  pub order : Drivers
  pub requested : List Bool

-- the flag of a module; a number past the flags has none
abbrev pub flag_at : List Bool → ℕ → Bool
flag_at flags number = unwrap_or (slice_get flags number) false

-- the flags of these modules are up
abbrev pub AreFlags : List ℕ → List Bool → Type 0
AreFlags numbers flags = (number : ℕ) → flag_at flags number ≡ has_number numbers number

-- what is kept is what the machine has
pub record AreServicesOf (catalog : Catalog) (m : DxeMachine) (s : Services) : Type 0 where
  pub handles : m.handles ≡ s.handles
  pub notes : m.notes ≡ s.notes
  pub order : IsOrderOf catalog m.discovered s.order
  pub requested : AreFlags m.requested s.requested

-- a flag for each module of the catalogue
abbrev pub AreServicesFor : Catalog → Services → Type 0
AreServicesFor catalog s = length s.requested ≡ length catalog.modules

-- no more handles were made, interfaces added and notifications registered than actions were taken
pub record AreCounted (actions : ℕ) (s : Services) : Type 0 where
  pub made : s.handles.made ≤ actions
  pub interfaces : length s.handles.interfaces ≤ actions
  pub notes : length s.notes ≤ actions
