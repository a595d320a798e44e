-- The discovered order has each driver of a discovered volume, and nothing else.
use Rattle.std.proofs.Common.{◌≡◌, ℕ, true}
use Rattle.pi_base.specs.declared.phase.Phase.TheVariants.{Dxe}
use Rattle.mod_catalog.specs.declared.catalogue.Catalog.{Catalog}
use Rattle.mod_catalog.specs.Parts.{has_number, module_volume, parts_in}
use Rattle.boot_model.specs.{DxeMachine.DxeMachine, DxeChoice.discovered_order, DriverLicence.IsDiscovered}
use Rattle.boot_laws.specs.DiscoveredOrder.{HasEachOnce}
use Rattle.boot_model.proofs.{ListFacts.each_at, Distinct.Distinct, Distinct.all_differ}
use Rattle.boot_laws.proofs.PartLists.{distinct_of, known_of, drivers_are}
use Rattle.boot_laws.proofs.PeiOrders.{has_flat, part_in_volume}

pub order_has : (catalog : Catalog) (m : DxeMachine) (number : ℕ) → IsDiscovered catalog m number → has_number (discovered_order catalog m) number ≡ true
order_has catalog m number h = has_flat (parts_in Dxe catalog) m.discovered (module_volume catalog number) number h.1 (part_in_volume Dxe catalog number h.0)

pub order_is : (catalog : Catalog) (m : DxeMachine) (number : ℕ) → has_number (discovered_order catalog m) number ≡ true → IsDiscovered catalog m number
order_is catalog m number h = each_at (IsDiscovered catalog m) (discovered_order catalog m) number (known_of catalog (parts_in Dxe catalog) (drivers_are catalog) m.discovered) h

pub has_each_once : (catalog : Catalog) (m : DxeMachine) → Distinct m.discovered → HasEachOnce catalog m
has_each_once catalog m d =
    record { once = all_differ (discovered_order catalog m) (distinct_of catalog (parts_in Dxe catalog) (drivers_are catalog) m.discovered d); each = λ number. (order_has catalog m number, order_is catalog m number) }
