-- The first queued pair.
use Rattle.std.proofs.Common.{◌≡◌, ◌≤◌, ◌<◌, ◌+◌, ◌^◌, ℕ, List, [], ◌∷◌, Some, None, ap, sym, refl, ◌∙◌, arith, subst, ◌==◌, if◌then◌else◌, IfSome, map, option_map, replicate, slice_get}
use Rattle.pi_base.specs.{Lists.Each, declared.guid.Guid.Guid}
use Rattle.phys_mem.specs.{Region.replaced, declared.memory.PhysMem.PhysMem}
use Rattle.store_model.specs.{declared.store_handle.EntryList.TheVariants.Pendings, declared.store_handle.DescKind.DescKind}
use Rattle.store_model.specs.{declared.store_handle.Firing.Firing, declared.state.Pending.Pending, StoreState.StoreState}
use Rattle.store_model.specs.StateFacts.{IsDesc, IsDescriptorAt, IsPending, IsStoreState}
use Rattle.store_model.specs.{HeapImage.heap_image, Service.Queue.popped, Service.Queue.queue_pop, Service.Sweep.firing_of}
use Rattle.store_laws.specs.{Keeping.KeepFacts, Changes.PairsArePopped, Changes.without_first, Chain.IsHeaded, Chain.NodesAreInside}
use Rattle.store_laws.specs.{Named.NamedAreThere, Heads.FirstIsPopped, Heads.LastIsPopped, Mapped.layout_of, Word.word_in}
use Rattle.store_model.specs.Service.Descriptor.{guid_at, number_at}
use Rattle.store_laws.specs.Items.{first_address, items, queued_item}
use Rattle.pei_heap.specs.{declared.heap.Heap.Heap, HeapMemory.Holds, declared.links.heads.Heads.Heads, declared.links.node.Node.Node}
use Rattle.pei_heap.specs.{Linked.IsLinked, Node.node_of, Popped.with_next_pair}

-- a pair that is found in the first place
pub record IsFirst (s : StoreState) (pair : Node) : Type 0 where
  pub first : Pending
  pub rest : List Pending
  pub pairs : s.pendings ≡ first ∷ rest
  pub note : pair.descriptor ≡ s.base + first.descriptor
  pub ppi : pair.second ≡ s.base + first.ppi

first_by : (s : StoreState) (xs : List Pending) (pair : Node) → s.pendings ≡ xs → Some pair ≡ option_map (node_of s.base) (slice_get (map (queued_item s.base) xs) 0) → IsFirst s pair
first_by s [] pair e f = cc
first_by s (x ∷ xs) pair e f =
    let same : pair ≡ node_of s.base (queued_item s.base x) = cc in
    record { first = x; rest = xs; pairs = e; note = ap (λ (n : Node). n.descriptor) same; ppi = ap (λ (n : Node). n.second) same }

pub first_pair : (s : StoreState) (pair : Node) → Some pair ≡ option_map (node_of s.base) (slice_get (items s Pendings) 0) → IsFirst s pair
first_pair s pair f = first_by s s.pendings pair refl f

none_by : (s : StoreState) (xs : List Pending) → None ≡ option_map (node_of s.base) (slice_get (map (queued_item s.base) xs) 0) → popped s xs ≡ None
none_by s [] f = refl
none_by s (x ∷ xs) f = cc

pub no_pair : (s : StoreState) → None ≡ option_map (node_of s.base) (slice_get (items s Pendings) 0) → queue_pop s ≡ None
no_pair s f = none_by s s.pendings f

-- what it names
pub first_is : (s : StoreState) (first : Pending) (rest : List Pending) → IsStoreState s → s.pendings ≡ first ∷ rest → IsPending s first
first_is s first rest h e = (subst (λ xs. Each (IsPending s) xs) e h.pendings).0

pub desc_is : (s : StoreState) (kind : DescKind) (place offset : ℕ) → offset ≡ place → IsDescriptorAt s kind place → IsDesc s (record { offset = offset })
desc_is s kind place offset e d = subst (λ n. IsDesc s (record { offset = n })) (sym e) (d.0, d.1)

-- the state without it
pub kept_state : (s : StoreState) (first : Pending) (rest : List Pending) → KeepFacts → IsStoreState s → s.pendings ≡ first ∷ rest → IsStoreState (without_first s first rest)
kept_state s first rest law h e = subst (λ (xs : List Pending). IfSome (popped s xs) (λ told. IsStoreState told.1)) e (law.queue_pop s h)

pub pop_is : (s : StoreState) (first : Pending) (rest : List Pending) (firing : Firing) → s.pendings ≡ first ∷ rest → firing ≡ firing_of s first.ppi first.descriptor → queue_pop s ≡ Some (firing, without_first s first rest)
pop_is s first rest firing e f = ap (popped s) e ∙ ap (λ (x : Firing). Some (x, without_first s first rest)) (sym f)

-- its node lies in the heap, at the first address
pub first_inside : (s : StoreState) (first : Pending) (rest : List Pending) → NodesAreInside → IsStoreState s → s.pendings ≡ first ∷ rest → first.node + 32 ≤ s.len
first_inside s first rest law h e = (law s Pendings 0 (queued_item s.base first) (map (queued_item s.base) rest) h (ap (map (queued_item s.base)) e)).1

pub first_at : (s : StoreState) (first : Pending) (rest : List Pending) → s.pendings ≡ first ∷ rest → first_address s.base (items s Pendings) ≡ s.base + first.node
first_at s first rest e = ap (λ xs. first_address s.base (map (queued_item s.base) xs)) e

pub unlinked : (s : StoreState) (first : Pending) (rest : List Pending) (heap : Heap) (old new : PhysMem) (heads : Heads) (offset next : ℕ) (text : List ℕ) → PairsArePopped → FirstIsPopped → LastIsPopped → KeepFacts
    → IsLinked heap old heads s → s.pendings ≡ first ∷ rest → offset ≡ first.node → next ≡ word_in (heap_image s) first.node → text ≡ replicate 32 0
    → Holds heap new (layout_of s) (replaced (heap_image s) offset text) → IsLinked heap new (with_next_pair next heads) (without_first s first rest)
unlinked s first rest heap old new heads offset next text law head tail keep h e at word zeros holds =
    let is = h.heap_is in
    let heads_are = h.heads_are in
    let t = without_first s first rest in
    let whole : replaced (heap_image s) offset text ≡ heap_image t = ap (λ n. replaced (heap_image s) n text) at ∙ ap (replaced (heap_image s) first.node) zeros ∙ sym (law s first rest is.state e) in
    record {
      heap_is = record { state = kept_state s first rest keep is.state e; image = subst (λ (x : List ℕ). Holds heap new (layout_of s) x) whole holds };
      heads_are = record {
        ppi_ends = record { first = heads_are.ppi_ends.first; last = heads_are.ppi_ends.last };
        note_ends = record { first = heads_are.note_ends.first; last = heads_are.note_ends.last };
        later_ends = record { first = heads_are.later_ends.first; last = heads_are.later_ends.last };
        queue_ends = record {
          first = word ∙ sym (head s first rest is.state e);
          last = ap (λ n. if n == 0 then 0 else heads.queue_tail) word ∙ ap (λ n. if word_in (heap_image s) first.node == 0 then 0 else n) heads_are.queue_ends.last ∙ sym (tail s first rest is.state e);
        };
        ppis_are = heads_are.ppis_are;
        notes_are = heads_are.notes_are;
      };
    }

-- the queue by its first node
pub headed : (s : StoreState) (heap : Heap) (memory : PhysMem) (heads : Heads) (bytes : List ℕ) → IsLinked heap memory heads s → bytes ≡ heap_image s → IsHeaded s Pendings bytes heap.span.base heads.queue
headed s heap memory heads bytes h e = record { state = h.heap_is.state; image = e; start = h.heap_is.image.base; first = h.heads_are.queue_ends.first }

-- a notification's entry fits
pub note_fits : (s : StoreState) (first : Pending) (rest : List Pending) → NamedAreThere → IsStoreState s → s.pendings ≡ first ∷ rest → number_at s first.descriptor < 2 ^ 32
note_fits s first rest law h e = let fits = (law.pending s 0 first h (ap (λ xs. slice_get xs 0) e)).note.number_is in omega (arith, fits)

pub same_firing : (s : StoreState) (first : Pending) (entry offset : ℕ) (guid : Guid) (value : ℕ) → entry ≡ number_at s first.descriptor → offset ≡ first.ppi → guid ≡ guid_at s first.ppi → value ≡ number_at s first.ppi
    → record { entry = entry; ppi = record { offset = offset }; guid = guid; value = value } ≡ firing_of s first.ppi first.descriptor
same_firing s first entry offset guid value a b c d =
    let made : ℕ → ℕ → Guid → ℕ → Firing = λ a b c d. record { entry = a; ppi = record { offset = b }; guid = c; value = d } in
    ap (λ x. made x offset guid value) a ∙ ap (λ x. made (number_at s first.descriptor) x guid value) b
    ∙ ap (λ x. made (number_at s first.descriptor) first.ppi x value) c ∙ ap (λ x. made (number_at s first.descriptor) first.ppi (guid_at s first.ppi) x) d
