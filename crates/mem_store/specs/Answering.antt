-- What a state says of a GUID, by the rows of its lists.
-- PI 1.8, volume 1, `LocatePpi()`, `InstallPpi()` and `NotifyPpi()`.
use Rattle.std.specs.Prelude.{◌≡◌, ℕ, map, option_map, slice_get}
use Rattle.std.specs.List.{list_any}
use Rattle.pi_base.specs.declared.guid.Guid.{Guid}
use Rattle.mem_store.specs.Entries.{entries_of, has_guid}
use Rattle.store_model.specs.{StoreState.StoreState, Service.Descriptor.descriptors, Service.Descriptor.guid_at}
use Rattle.store_model.specs.{Service.Install.has_ppi, Service.Install.row_of, Service.Reading.nth_ppi}
use Rattle.mem_store.specs.Rows.{pair_with, rows_of, told_row}

pub record RowsAnswer : Type 0 where
  pub has : (s : StoreState) (guid : Guid) → list_any (has_guid guid) (rows_of s s.ppis) ≡ has_ppi s guid
  pub nth : (s : StoreState) (guid : Guid) (n : ℕ)
      → option_map (told_row s) (slice_get (entries_of (rows_of s s.ppis) guid) n) ≡ nth_ppi s guid n
  pub pairs : (s : StoreState) (ppi : ℕ)
      → map (pair_with ppi) (entries_of (rows_of s s.dispatches) (guid_at s ppi)) ≡ row_of s ppi (descriptors s.dispatches)
