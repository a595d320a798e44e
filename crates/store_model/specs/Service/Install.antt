-- Installing PPIs, and putting one in the place of another. Each new PPI takes a node; so does each pair of a PPI of the call and a dispatch notification of its GUID, which is queued.
-- The core installs the PPI of permanent memory, its descriptor and its node in one call.
-- PI 1.8, volume 1, `InstallPpi()`, `ReInstallPpi()` and `EFI_PEI_PERMANENT_MEMORY_INSTALLED_PPI_GUID`.
use Rattle.std.specs.Prelude.{ℕ, ◌+◌, ◌*◌, Bool, ◌==◌, not, if◌then◌else◌, List, [], ◌∷◌, ◌++◌, length, map, Ok, Err, flat_map, filter, fold}
use Rattle.std.specs.List.{list_any, list_all}
use Rattle.pi_base.specs.{declared.guid.Guid.Guid, declared.known_guid.TheConstants.MEMORY_PPI, Guids.same_guid}
use Rattle.store_model.specs.{declared.state.TheConstants.CORE, declared.store_handle.DescKind.TheVariants.Ppi}
use Rattle.store_model.specs.{declared.store_handle.Desc.Desc, declared.store_handle.Sweep.Sweep}
use Rattle.store_model.specs.declared.store_handle.GuidFrom.TheVariants.{Inline}
use Rattle.store_model.specs.declared.store_handle.StoreFault.TheVariants.{Full, Missing}
use Rattle.store_model.specs.StoreState.{Entry, Node, StoreState, next_body, appended, pool_of, header_len, node_len}
use Rattle.store_model.specs.Service.{Service, in_room, unless_bad}
use Rattle.store_model.specs.Service.Descriptor.{desc, kind_at, guid_at, is_ppi, descriptors, offsets}

-- what a node takes, with its header
abbrev pub node_need : ℕ → ℕ
node_need count = (node_len + header_len) * count

-- a node, of which an entry is made
abbrev pub with_node : StoreState → StoreState
with_node s = appended s (pool_of Node)

-- one PPI more
abbrev pub with_ppi : ℕ → StoreState → Desc → StoreState
with_ppi by s d = record (with_node s) { ppis = s.ppis ++ record { node = next_body s; descriptor = d.offset; by = by } ∷ [] }

-- the pairs of one PPI with the notifications of its GUID, by the places of their descriptors
abbrev pub row_of : StoreState → ℕ → List ℕ → List (ℕ × ℕ)
row_of s ppi notes = map (λ note. (ppi, note)) (filter (λ note. same_guid (guid_at s ppi) (guid_at s note)) notes)

-- the pairs of all PPIs, in order of PPI and then of registration
abbrev pub pairs_of : StoreState → List ℕ → List ℕ → List (ℕ × ℕ)
pairs_of s ppis notes = flat_map (λ ppi. row_of s ppi notes) ppis

-- one queued pair more
abbrev pub with_pending : ℕ → StoreState → (ℕ × ℕ) → StoreState
with_pending by s pair =
    record (with_node s) { pendings = s.pendings ++ record { node = next_body s; descriptor = pair.1; ppi = pair.0; by = by } ∷ [] }

-- the new PPIs with all dispatch notifications
abbrev pub install_pairs : StoreState → List Desc → List (ℕ × ℕ)
install_pairs s list = pairs_of s (offsets list) (descriptors s.dispatches)

-- the new PPIs with all callbacks
abbrev pub install_sweep : StoreState → List Desc → Sweep
install_sweep s list = record {
  ppi_to = length s.ppis + length list;
  note_from = 0;
  note_to = length s.callbacks;
  ppi_at = length s.ppis;
  note_at = 0;
}

-- the state with these PPIs, and with their pairs after those that are queued
abbrev pub installed : StoreState → List Desc → ℕ → StoreState
installed s list by = fold (with_pending by) (fold (with_ppi by) s list) (install_pairs s list)

-- `InstallPpi()`: Bad if one of these is not a PPI's descriptor, then Full if the nodes of the PPIs and of the pairs have no room
abbrev pub install : StoreState → List Desc → ℕ → Service Sweep
install s list by =
    unless_bad (not (list_all (λ d. is_ppi (kind_at s d.offset)) list))
    (in_room s (node_need (length list) + node_need (length (install_pairs s list))) (Ok (install_sweep s list, installed s list by)))

-- the first PPI that names the old descriptor names the new one
abbrev pub renamed : List Entry → ℕ → ℕ → List Entry
renamed [] old new = []
renamed (entry ∷ entries) old new =
    if entry.descriptor == old then record entry { descriptor = new } ∷ entries else entry ∷ renamed entries old new

-- how many PPIs are before it
abbrev pub place_of : List Entry → ℕ → ℕ
place_of [] old = 0
place_of (entry ∷ entries) old = if entry.descriptor == old then 0 else 1 + place_of entries old

-- that PPI with all dispatch notifications, and with all callbacks
abbrev pub reinstall_pairs : StoreState → Desc → List (ℕ × ℕ)
reinstall_pairs s new = pairs_of s (new.offset ∷ []) (descriptors s.dispatches)

-- the callbacks that meet the PPI in its place
abbrev pub reinstall_sweep : StoreState → Desc → Sweep
reinstall_sweep s old = record {
  ppi_to = place_of s.ppis old.offset + 1;
  note_from = 0;
  note_to = length s.callbacks;
  ppi_at = place_of s.ppis old.offset;
  note_at = 0;
}

-- the state with the new descriptor in the place of the old one, and with its pairs queued
abbrev pub reinstalled : StoreState → Desc → Desc → ℕ → StoreState
reinstalled s old new by = fold (with_pending by) (record s { ppis = renamed s.ppis old.offset new.offset }) (reinstall_pairs s new)

-- whether a PPI names a descriptor
abbrev pub is_installed : StoreState → Desc → Bool
is_installed s d = list_any (λ place. place == d.offset) (descriptors s.ppis)

-- `ReInstallPpi()`: Bad if the new one is not a PPI's descriptor, Missing if no PPI names the old one, then Full
abbrev pub reinstall : StoreState → Desc → Desc → ℕ → Service Sweep
reinstall s old new by =
    unless_bad (not (is_ppi (kind_at s new.offset)))
    (if not (is_installed s old) then Err Missing
    else in_room s (node_need (length (reinstall_pairs s new))) (Ok (reinstall_sweep s old, reinstalled s old new by)))

-- both parts of the core's call, or neither
abbrev pub both_or_full : Service Sweep → Service Sweep
both_or_full (Ok done) = Ok done
both_or_full (Err fault) = Err Full

-- the second part of the core's call, after the descriptor
abbrev pub core_of : Service Desc → Service Sweep
core_of (Err fault) = Err Full
core_of (Ok (d, made)) = both_or_full (install made (d ∷ []) CORE)

-- the core's call: the PPI of permanent memory, with the value 0; its maker is the core
abbrev pub core_install : StoreState → Service Sweep
core_install s = core_of (desc s Ppi (Inline MEMORY_PPI) 0)

-- whether a PPI of this GUID is installed
abbrev pub has_ppi : StoreState → Guid → Bool
has_ppi s guid = list_any (λ entry. same_guid (guid_at s entry.descriptor) guid) s.ppis
