-- The entry whose node stands at an address.
use Rattle.std.proofs.Common.{◌≡◌, ◌≢◌, ◌≤◌, ◌+◌, ◌-◌, ℕ, zero, suc, List, [], ◌∷◌, drop, Some, None, ap, sym, refl, ◌∙◌, arith, subst, map, option_map, slice_get}
use Rattle.store_model.specs.{declared.state.Entry.Entry, declared.store_handle.DescKind.DescKind}
use Rattle.store_model.specs.{declared.store_handle.EntryList.EntryList, StoreState.StoreState, StateFacts.IsDesc, StateFacts.IsStoreState}
use Rattle.store_model.specs.declared.store_handle.EntryList.TheVariants.{Ppis, Callbacks, Dispatches, Pendings}
use Rattle.store_model.specs.HeapImage.{heap_image}
use Rattle.store_laws.specs.{Named.IsNamed, Named.NamedAreThere, Word.word_in}
use Rattle.store_laws.specs.Chain.{IsHeaded, NextIsRead, NodesAreInside}
use Rattle.store_laws.specs.Items.{Item, first_address, item_of, items}
use Rattle.store_laws.proofs.Nodes.{drop_next, node_place}
use Rattle.phys_mem.specs.declared.memory.PhysMem.{PhysMem}
use Rattle.pei_heap.specs.{declared.heap.Heap.Heap, HeapMemory.IsHeapOf, declared.links.node.Node.Node, Node.node_of}
use Rattle.pei_heap.specs.Walk.{HasEntries, IsMetAt, StandsAt, address_from, entries_in, kind_in}
use Rattle.pei_heap.proofs.Nth.{get_next, next}

-- the item at an address that is not 0, and none at 0
pub record IsItemAt (s : StoreState) (list : EntryList) (place at : ℕ) : Type 0 where
  pub item : Item
  pub rest : List Item
  pub there : drop place (items s list) ≡ item ∷ rest
  pub at_is : at ≡ s.base + item.node

item_by : (s : StoreState) (list : EntryList) (place at : ℕ) (left : List Item) → drop place (items s list) ≡ left → at ≢ 0 → at ≡ first_address s.base left → IsItemAt s list place at
item_by s list place at [] e some f = absurd (some f)
item_by s list place at (item ∷ rest) e some f = record { item = item; rest = rest; there = e; at_is = f }

pub item_at : (s : StoreState) (list : EntryList) (place at : ℕ) → at ≢ 0 → at ≡ address_from s list place → IsItemAt s list place at
item_at s list place at some f = item_by s list place at (drop place (items s list)) refl some f

none_by : (s : StoreState) (list : EntryList) (place at : ℕ) (left : List Item) → IsStoreState s → drop place (items s list) ≡ left → at ≡ 0 → at ≡ first_address s.base left → left ≡ []
none_by s list place at [] h e z f = refl
none_by s list place at (item ∷ rest) h e z f = let le = node_place s list place item rest h e in absurd (omega (arith, le.0, f, z))

pub none_at : (s : StoreState) (list : EntryList) (place at : ℕ) → IsStoreState s → at ≡ 0 → at ≡ address_from s list place → drop place (items s list) ≡ []
none_at s list place at h z f = none_by s list place at (drop place (items s list)) h refl z f

-- the list by its bytes
pub headed_at : (s : StoreState) (list : EntryList) (heap : Heap) (memory : PhysMem) (bytes : List ℕ) (head : ℕ) → IsHeapOf heap memory s → bytes ≡ heap_image s → head ≡ first_address s.base (items s list) → IsHeaded s list bytes heap.span.base head
headed_at s list heap memory bytes head h e f = record { state = h.state; image = e; start = h.image.base; first = f }

-- the entry of an item
entry_of : (base : ℕ) (xs : List Entry) (place : ℕ) (item : Item) (rest : List Item) → drop place (map (item_of base) xs) ≡ item ∷ rest → (e : Entry) × (es : List Entry) × (drop place xs ≡ e ∷ es) × (item_of base e ≡ item)
entry_of base [] zero item rest e = cc
entry_of base [] (suc i) item rest e = cc
entry_of base (x ∷ xs) zero item rest e = (x, xs, refl, cc)
entry_of base (x ∷ xs) (suc i) item rest e = entry_of base xs i item rest e

no_entry : (base : ℕ) (xs : List Entry) (place : ℕ) → drop place (map (item_of base) xs) ≡ [] → drop place xs ≡ []
no_entry base [] zero e = refl
no_entry base [] (suc i) e = refl
no_entry base (x ∷ xs) zero e = cc
no_entry base (x ∷ xs) (suc i) e = no_entry base xs i e

-- what it names
named : (s : StoreState) (list : EntryList) (place : ℕ) (entry : Entry) (rest : List Entry) → NamedAreThere → IsStoreState s → HasEntries list → drop place (entries_in s list) ≡ entry ∷ rest → IsNamed s (kind_in list) entry.descriptor
named s Ppis place entry rest law h has e = law.ppi s place entry h (get_next s.ppis place entry rest e)
named s Callbacks place entry rest law h has e = law.callback s place entry h (get_next s.callbacks place entry rest e)
named s Dispatches place entry rest law h has e = law.dispatch s place entry h (get_next s.dispatches place entry rest e)
named s Pendings place entry rest law h has e = absurd has

pub record IsEntryAt (s : StoreState) (list : EntryList) (place : ℕ) (item : Item) : Type 0 where
  pub entry : Entry
  pub rest : drop place (entries_in s list) ≡ entry ∷ drop (place + 1) (entries_in s list)
  pub is : item_of s.base entry ≡ item

entry_in : (s : StoreState) (list : EntryList) (xs : List Entry) (place : ℕ) (item : Item) (rest : List Item) → entries_in s list ≡ xs → drop place (map (item_of s.base) xs) ≡ item ∷ rest → IsEntryAt s list place item
entry_in s list xs place item rest same e =
    let f = entry_of s.base xs place item rest e in
    let tail : drop (place + 1) xs ≡ f.1 = drop_next xs place f.0 f.1 f.2 in
    record {
      entry = f.0;
      rest = ap (drop place) same ∙ f.2 ∙ ap (λ x. f.0 ∷ x) (sym tail) ∙ ap (λ x. f.0 ∷ drop (place + 1) x) (sym same);
      is = f.3;
    }

entry_by : (s : StoreState) (list : EntryList) (place : ℕ) (item : Item) (rest : List Item) → HasEntries list → drop place (items s list) ≡ item ∷ rest → IsEntryAt s list place item
entry_by s Ppis place item rest has e = entry_in s Ppis s.ppis place item rest refl e
entry_by s Callbacks place item rest has e = entry_in s Callbacks s.callbacks place item rest refl e
entry_by s Dispatches place item rest has e = entry_in s Dispatches s.dispatches place item rest refl e
entry_by s Pendings place item rest has e = absurd has

pub no_more : (s : StoreState) (list : EntryList) (place : ℕ) → HasEntries list → drop place (items s list) ≡ [] → drop place (entries_in s list) ≡ []
no_more s Ppis place has e = no_entry s.base s.ppis place e
no_more s Callbacks place has e = no_entry s.base s.callbacks place e
no_more s Dispatches place has e = no_entry s.base s.dispatches place e
no_more s Pendings place has e = absurd has

same_entry : (base : ℕ) (entry : Entry) (item : Item) (node descriptor by : ℕ) → item_of base entry ≡ item → node ≡ item.node → descriptor + base ≡ item.descriptor → by ≡ item.number
    → record { node = node; descriptor = descriptor; by = by } ≡ entry
same_entry base entry item node descriptor by e a b c =
    let x : node ≡ entry.node = a ∙ sym (ap (λ (i : Item). i.node) e) in
    let d : base + entry.descriptor ≡ item.descriptor = ap (λ (i : Item). i.descriptor) e in
    let y : descriptor ≡ entry.descriptor = omega (arith, b, d) in
    let z : by ≡ entry.by = c ∙ sym (ap (λ (i : Item). i.number) e) in
    let made : ℕ → ℕ → ℕ → Entry = λ p q r. record { node = p; descriptor = q; by = r } in
    ap (λ p. made p descriptor by) x ∙ ap (λ q. made entry.node q by) y ∙ ap (λ r. made entry.node entry.descriptor r) z

-- what is read at an address
pub met : (s : StoreState) (list : EntryList) (place at base word : ℕ) (bytes : List ℕ) (node : Node) (item : Item) (rest : List Item) → NamedAreThere → NextIsRead → IsHeaded s list bytes base (first_address s.base (items s list))
    → at ≢ 0 → StandsAt s list place at → drop place (items s list) ≡ item ∷ rest → at ≡ s.base + item.node → node ≡ node_of s.base item → base ≤ node.descriptor → word ≡ word_in bytes (at - base)
    → IsMetAt s list place (record { entry = record { node = at - base; descriptor = node.descriptor - base; by = node.by }; next = word })
met s list place at base word bytes node item rest law read h some stands e here is low w =
    let f = entry_by s list place item rest stands.entries e in
    let start = h.start in
    let descriptor : node.descriptor ≡ item.descriptor = ap (λ (n : Node). n.descriptor) is in
    let by : node.by ≡ item.number = ap (λ (n : Node). n.by) is in
    let same = same_entry s.base f.entry item (at - base) (node.descriptor - base) node.by f.is (omega (arith, here, start)) (omega (arith, descriptor, start, low)) by in
    record {
      rest = f.rest ∙ ap (λ x. x ∷ drop (place + 1) (entries_in s list)) (sym same);
      next = record { entries = stands.entries; here = next s list bytes base (first_address s.base (items s list)) place (place + 1) at word read h some stands.here w refl };
      named = subst (λ (x : Entry). IsNamed s (kind_in list) x.descriptor) (sym same) (named s list place f.entry (drop (place + 1) (entries_in s list)) law h.state stands.entries f.rest);
    }

-- a descriptor that is named may be read
pub desc_of : (s : StoreState) (kind : DescKind) (place : ℕ) → IsNamed s kind place → IsDesc s (record { offset = place })
desc_of s kind place n = (n.there.0, n.there.1)

-- the descriptor of a node lies behind the heap's base
pub behind_base : (s : StoreState) (list : EntryList) (place base : ℕ) (node : Node) (item : Item) (rest : List Item) → NodesAreInside → IsStoreState s → base ≡ s.base → drop place (items s list) ≡ item ∷ rest → node ≡ node_of s.base item → base ≤ node.descriptor
behind_base s list place base node item rest law h start e is =
    let inside = law s list place item rest h e in
    let descriptor : node.descriptor ≡ item.descriptor = ap (λ (n : Node). n.descriptor) is in
    omega (arith, inside.2, start, descriptor)

-- the address of an item that was found by its place
pub from_get : (base : ℕ) (xs : List Item) (i at : ℕ) → Some at ≡ option_map (λ (item : Item). base + item.node) (slice_get xs i) → at ≡ first_address base (drop i xs)
from_get base [] zero at e = cc
from_get base [] (suc i) at e = cc
from_get base (x ∷ xs) zero at e = cc
from_get base (x ∷ xs) (suc i) at e = from_get base xs i at e

pub from_none : (base : ℕ) (xs : List Item) (i : ℕ) → None ≡ option_map (λ (item : Item). base + item.node) (slice_get xs i) → 0 ≡ first_address base (drop i xs)
from_none base [] zero e = refl
from_none base [] (suc i) e = refl
from_none base (x ∷ xs) zero e = cc
from_none base (x ∷ xs) (suc i) e = from_none base xs i e
