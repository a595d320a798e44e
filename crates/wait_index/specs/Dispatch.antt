-- The index stands for the machine of its phase: its order is that of the known volumes, the standing of its parts is what the machine's lists say, and for
-- each GUID with a slot it knows whether the GUID is installed.
use Rattle.std.specs.Prelude.{◌≡◌, ℕ, true, false, not, ◌&&◌, Some}
use Rattle.pi_base.specs.{declared.guid.Guid.Guid, declared.phase.Phase.TheVariants.Pei, declared.phase.Phase.TheVariants.Dxe}
use Rattle.pi_base.specs.GuidMap.{value_of}
use Rattle.mod_catalog.specs.{declared.catalogue.Catalog.Catalog, Parts.has_number}
use Rattle.boot_model.specs.DxeChoice.{discovered_order, is_waiting, is_unrequested}
use Rattle.boot_model.specs.{DxeMachine.DxeMachine, Eligible.may_start_again, PeiChoice.pei_order, PeiMachine.PeiMachine}
use Rattle.store_model.specs.{HandleState.has_protocol, Service.Install.has_ppi}
use Rattle.wait_index.specs.declared.index.WaitIndex.{WaitIndex}
use Rattle.wait_index.specs.Index.{order_in, waits_in, is_open_in, again_in, has_in}

pub record StandsForPei (catalog : Catalog) (m : PeiMachine) (index : WaitIndex) : Type 0 where
  pub phase : index.phase ≡ Pei
  pub order : order_in index ≡ pei_order catalog m.reported
  pub waits : (number : ℕ) → has_number (order_in index) number ≡ true → waits_in index number ≡ not (has_number m.started number)
  pub opens : (number : ℕ) → has_number (order_in index) number ≡ true → is_open_in index number ≡ true
  pub again : (number : ℕ) → has_number (order_in index) number ≡ true → again_in index number ≡ (has_number m.started number && may_start_again m number)
  pub installed : (guid : Guid) (slot : ℕ) → value_of index.installed.slots guid ≡ Some slot → has_in index guid ≡ has_ppi m.store guid

pub record StandsForDxe (catalog : Catalog) (m : DxeMachine) (index : WaitIndex) : Type 0 where
  pub phase : index.phase ≡ Dxe
  pub order : order_in index ≡ discovered_order catalog m
  pub waits : (number : ℕ) → has_number (order_in index) number ≡ true → waits_in index number ≡ is_waiting m number
  pub opens : (number : ℕ) → has_number (order_in index) number ≡ true → is_open_in index number ≡ not (is_unrequested catalog m number)
  pub again : (number : ℕ) → has_number (order_in index) number ≡ true → again_in index number ≡ false
  pub installed : (guid : Guid) (slot : ℕ) → value_of index.installed.slots guid ≡ Some slot → has_in index guid ≡ has_protocol m.handles guid
