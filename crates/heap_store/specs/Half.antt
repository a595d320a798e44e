-- The bytes of a heap between two writes of its move, and the memory that has them: the hand-off HOB is the new one, and of the bodies some are spelled at the new base and some at the old.
-- Own.
use Rattle.std.specs.Prelude.{ℕ, ◌+◌, ◌-◌, false, List, [], ◌∷◌, ◌++◌, replicate, Option, Some, None}
use Rattle.phys_mem.specs.declared.memory.PhysMem.{PhysMem}
use Rattle.hob_codec.specs.declared.kind.TheConstants.{END}
use Rattle.store_model.specs.declared.store_handle.EntryList.TheVariants.{Ppis, Callbacks, Dispatches, Pendings}
use Rattle.store_model.specs.StoreState.{Range, StoreState, end_place, header_len, handoff_len}
use Rattle.store_model.specs.{HeapImage.header_bytes, Migration.migrated_to}
use Rattle.store_laws.specs.{Growing.front_bytes, Spelling.spelled, Mapped.layout_of, Mapped.HasHeap}
use Rattle.store_laws.specs.Moving.{Done, half, with_descriptor, with_node_done}
use Rattle.heap_store.specs.Linked.{Link, links_of}

-- the end HOB and the zeros behind it
unfoldable pub behind : StoreState → Range → List ℕ
behind s to = header_bytes END header_len ++ replicate (to.len - (end_place s + header_len)) 0

unfoldable pub half_image : StoreState → Range → Done → List ℕ
half_image s to done = front_bytes (migrated_to s to) ++ spelled (half s to done) handoff_len s.hobs ++ behind s to

abbrev pub IsHalf : StoreState → Range → Done → PhysMem → Type 0
IsHalf s to done memory = HasHeap (layout_of (migrated_to s to)) (half_image s to done) memory

-- a descriptor more, if there is one
abbrev pub with_other : Done → Option ℕ → Done
with_other done None = done
with_other done (Some p) = with_descriptor done p

-- a node more with the descriptors that it names
abbrev pub with_link : Done → Link → Done
with_link done link = with_other (with_descriptor (with_node_done done link.node) link.descriptor) link.other

abbrev pub with_links : Done → List Link → Done
with_links done [] = done
with_links done (link ∷ rest) = with_links (with_link done link) rest

-- nothing is done
abbrev pub none_done : Done
none_done = record { nodes = λ _. false; descriptors = λ _. false; pages = λ _. false }

-- all four lists are done
abbrev pub lists_done : StoreState → Done
lists_done s =
    with_links (with_links (with_links (with_links none_done (links_of s Ppis)) (links_of s Callbacks)) (links_of s Dispatches))
    (links_of s Pendings)
