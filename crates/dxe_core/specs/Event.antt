-- What an event of the machine did, apart from its lines: the protocol that it changed, the driver that it requested, and how many volumes it discovered; and
-- what it leaves. Own; PI 1.8, volume 2, "Protocol Handler Services" and "DXE Services".
use Rattle.std.specs.Prelude.{◌≡◌, ℕ, true, List, ◌++◌, length, None, Some, IfSome, option_to_list}
use Rattle.pi_base.specs.declared.guid.Guid.{Guid}
use Rattle.mod_catalog.specs.{declared.catalogue.Catalog.Catalog, Parts.has_number}
use Rattle.boot_model.specs.{DxeMachine.DxeMachine, DxeChoice.a_priori_drivers, DxeChoice.discovered_order}
use Rattle.dxe_core.specs.declared.event.Event.{Event}

-- an event that did none of these
abbrev pub quiet : Event
quiet = record { changed = None; requested = None; discovered = 0 }

-- it changed this protocol
abbrev pub changes : Guid → Event
changes guid = record quiet { changed = Some guid }

-- it requested this driver
abbrev pub requests : ℕ → Event
requests number = record quiet { requested = Some number }

-- it discovered so many volumes
abbrev pub discovers : ℕ → Event
discovers count = record quiet { discovered = count }

-- a driver of a discovered volume
abbrev pub IsDiscoveredDriver : Catalog → DxeMachine → ℕ → Type 0
IsDiscoveredDriver catalog m number = has_number (discovered_order catalog m) number ≡ true

-- what an event leaves: the volumes that it discovered are after those that there were, and their a priori drivers after the queue; so does the driver that it
-- requested, one of a discovered volume; nothing has started
pub record EventLeaves (catalog : Catalog) (event : Event) (m later : DxeMachine) : Type 0 where
  pub volumes : List ℕ
  pub count : event.discovered ≡ length volumes
  pub discovered : later.discovered ≡ m.discovered ++ volumes
  pub scheduled : later.scheduled ≡ m.scheduled ++ a_priori_drivers catalog volumes
  pub started : later.started ≡ m.started
  pub requested : later.requested ≡ m.requested ++ option_to_list event.requested
  pub in_order : IfSome event.requested (IsDiscoveredDriver catalog m)
