-- Memory behind the writes of an entry that is made.
use Rattle.std.proofs.Common.{◌≡◌, ◌≢◌, ◌≤◌, ◌+◌, ℕ, List, Some, ap, sym, ◌∙◌, arith, subst}
use Rattle.phys_mem.specs.{Region.replaced, declared.memory.PhysMem.PhysMem}
use Rattle.store_model.specs.{declared.store_handle.EntryList.EntryList, StoreState.StoreState, StoreState.next_body}
use Rattle.store_model.specs.declared.store_handle.EntryList.TheVariants.{Ppis, Callbacks, Dispatches, Pendings}
use Rattle.store_model.specs.{StateFacts.IsStoreState, HeapImage.heap_image, HeapImage.links_bytes, Service.Install.with_node}
use Rattle.store_laws.specs.{Keeping.IsWord, Steps.StepsKeepFacts, Items.items, Items.links_before, Mapped.layout_of}
use Rattle.store_laws.specs.Heads.{LastIsInside, LastIsNamed, last_address, named_at}
use Rattle.store_laws.specs.Linking.{CallbacksAreLinked, DispatchesAreLinked, HasNodeRoom, PairsAreLinked, PpisAreLinked, with_last}
use Rattle.store_laws.proofs.Facts.{has_room}
use Rattle.pei_heap.specs.{declared.heap.Heap.Heap, HeapMemory.Holds, HeapMemory.IsHeapOf, declared.links.entry.NewEntry.NewEntry}
use Rattle.pei_heap.specs.NewEntry.{IsReady, second_of, with_entry}
use Rattle.pei_heap.proofs.{Ends.new_item, Entries.still_state}

-- the laws of all four lists
pub record AreLinked : Type 0 where
  pub ppi : PpisAreLinked
  pub callback : CallbacksAreLinked
  pub dispatch : DispatchesAreLinked
  pub pair : PairsAreLinked

linked_image : (list : EntryList) (entry : NewEntry) (s : StoreState) → AreLinked → IsStoreState s → HasNodeRoom s
    → heap_image (with_entry list entry s) ≡ with_last s list (new_item list entry s) (heap_image (with_node s))
linked_image Ppis entry s law h room = law.ppi s entry.by (record { offset = entry.descriptor }) h room
linked_image Callbacks entry s law h room = law.callback s entry.by (record { offset = entry.descriptor }) h room
linked_image Dispatches entry s law h room = law.dispatch s entry.by (record { offset = entry.descriptor }) h room
linked_image Pendings entry s law h room = law.pair s entry.by (entry.ppi, entry.descriptor) h room

pub node_room : (list : EntryList) (entry : NewEntry) (s : StoreState) → IsStoreState s → IsReady list entry s → HasNodeRoom s
node_room list entry s h ready = let room = ready.room in let all = has_room s h in omega (arith, room, all)

-- the last node lies in the heap
pub tail_inside : (s : StoreState) (list : EntryList) (last : ℕ) → LastIsInside → IsStoreState s → last ≡ last_address s.base (items s list) → last ≢ 0 → (s.base ≤ last) × (last + 8 ≤ s.base + s.len)
tail_inside s list last law h e some =
    let inside = law s list h (λ z. some (e ∙ z)) in
    let room = has_room s h in
    (omega (arith, e, inside.0), omega (arith, e, inside.1, room))

-- an entry more leaves the heap where it lies
entry_holds : (list : EntryList) (entry : NewEntry) (s : StoreState) (heap : Heap) (memory : PhysMem) → Holds heap memory (layout_of s) (heap_image (with_entry list entry s))
    → Holds heap memory (layout_of (with_entry list entry s)) (heap_image (with_entry list entry s))
entry_holds Ppis entry s heap memory h = h
entry_holds Callbacks entry s heap memory h = h
entry_holds Dispatches entry s heap memory h = h
entry_holds Pendings entry s heap memory h = h

-- the bytes of the node
node_bytes : (list : EntryList) (entry : NewEntry) (s : StoreState) (base : ℕ) (text : List ℕ) → base ≡ s.base
    → text ≡ links_bytes (Some (record { next = 0; descriptor = base + entry.descriptor; second = second_of list base entry; number = entry.by }))
    → text ≡ links_bytes (Some (links_before (new_item list entry s) 0))
node_bytes list entry s base text e is = is ∙ ap (λ n. links_bytes (Some (record { next = 0; descriptor = n + entry.descriptor; second = second_of list n entry; number = entry.by }))) e

pub pushed : (list : EntryList) (entry : NewEntry) (s : StoreState) (heap : Heap) (old new : PhysMem) (last node : ℕ) (text : List ℕ) → AreLinked → LastIsNamed → StepsKeepFacts → IsHeapOf heap old s → IsReady list entry s → IsWord entry.by
    → last ≡ last_address s.base (items s list) → node ≡ next_body s
    → text ≡ links_bytes (Some (record { next = 0; descriptor = heap.span.base + entry.descriptor; second = second_of list heap.span.base entry; number = entry.by }))
    → Holds heap new (layout_of s) (named_at s.base last (heap.span.base + node) (replaced (heap_image (with_node s)) node text)) → IsHeapOf heap new (with_entry list entry s)
pushed list entry s heap old new last node text law named steps is ready by last_is node_is text_is holds =
    let base : heap.span.base ≡ s.base = is.image.base in
    let exact : List ℕ = links_bytes (Some (links_before (new_item list entry s) 0)) in
    let same : text ≡ exact = node_bytes list entry s heap.span.base text base text_is in
    let under = heap_image (with_node s) in
    let address : heap.span.base + node ≡ s.base + next_body s = omega (arith, base, node_is) in
    let whole : named_at s.base last (heap.span.base + node) (replaced under node text) ≡ heap_image (with_entry list entry s) =
    ap (λ n. named_at s.base n (heap.span.base + node) (replaced under node text)) last_is
    ∙ ap (λ n. named_at s.base (last_address s.base (items s list)) n (replaced under node text)) address
    ∙ ap (λ n. named_at s.base (last_address s.base (items s list)) (s.base + next_body s) (replaced under n text)) node_is
    ∙ ap (λ x. named_at s.base (last_address s.base (items s list)) (s.base + next_body s) (replaced under (next_body s) x)) same
    ∙ sym (named s list (s.base + next_body s) (replaced under (next_body s) exact) is.state)
    ∙ sym (linked_image list entry s law is.state (node_room list entry s is.state ready)) in
    record { state = still_state list entry s steps is.state ready by; image = entry_holds list entry s heap new (subst (λ (x : List ℕ). Holds heap new (layout_of s) x) whole holds) }
