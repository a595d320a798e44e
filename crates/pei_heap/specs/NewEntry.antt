-- An entry more in a list, by the offsets of what it names.
-- PI 1.8, volume 1, `InstallPpi()` and `NotifyPpi()`; the nodes are own.
use Rattle.std.specs.Prelude.{ℕ, ◌+◌, ◌≤◌, ◌==◌, if◌then◌else◌}
use Rattle.store_model.specs.declared.store_handle.DescKind.TheVariants.{Ppi, Callback, Dispatch}
use Rattle.store_model.specs.{declared.store_handle.EntryList.EntryList, StoreState.StoreState, StoreState.free, StateFacts.IsDescriptorAt}
use Rattle.store_model.specs.declared.store_handle.EntryList.TheVariants.{Ppis, Callbacks, Dispatches, Pendings}
use Rattle.store_model.specs.Service.Install.{node_need, with_ppi, with_pending}
use Rattle.store_model.specs.Service.Notify.{with_note_of}
use Rattle.pei_heap.specs.{declared.links.entry.NewEntry.NewEntry, declared.links.heads.Heads.Heads}

-- the state with it
abbrev pub with_entry : EntryList → NewEntry → StoreState → StoreState
with_entry Ppis entry s = with_ppi entry.by s (record { offset = entry.descriptor })
with_entry Callbacks entry s = with_note_of Callback entry.by s (record { offset = entry.descriptor })
with_entry Dispatches entry s = with_note_of Dispatch entry.by s (record { offset = entry.descriptor })
with_entry Pendings entry s = with_pending entry.by s (entry.ppi, entry.descriptor)

-- what it names are descriptors of the list's kind
abbrev pub IsOf : EntryList → NewEntry → StoreState → Type 0
IsOf Ppis entry s = IsDescriptorAt s Ppi entry.descriptor
IsOf Callbacks entry s = IsDescriptorAt s Callback entry.descriptor
IsOf Dispatches entry s = IsDescriptorAt s Dispatch entry.descriptor
IsOf Pendings entry s = IsDescriptorAt s Ppi entry.ppi × IsDescriptorAt s Dispatch entry.descriptor

-- and its node has room
pub record IsReady (list : EntryList) (entry : NewEntry) (s : StoreState) : Type 0 where
  pub names : IsOf list entry s
  pub room : node_need 1 ≤ free s

-- the address of the second descriptor that its node names, or 0
abbrev pub second_of : EntryList → ℕ → NewEntry → ℕ
second_of Ppis base entry = 0
second_of Callbacks base entry = 0
second_of Dispatches base entry = 0
second_of Pendings base entry = base + entry.ppi

-- the heads with a node after the last of a list
abbrev pub first_of : ℕ → ℕ → ℕ
first_of head address = if head == 0 then address else head

abbrev pub with_last_node : EntryList → ℕ → Heads → Heads
with_last_node Ppis address heads = record heads { ppi = first_of heads.ppi address; ppi_tail = address; ppis = heads.ppis + 1 }
with_last_node Callbacks address heads = record heads { note = first_of heads.note address; note_tail = address; notes = heads.notes + 1 }
with_last_node Dispatches address heads = record heads { later = first_of heads.later address; later_tail = address }
with_last_node Pendings address heads = record heads { queue = first_of heads.queue address; queue_tail = address }
