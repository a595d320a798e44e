-- The fields of the node in a place of a list.
use Rattle.std.proofs.Common.{◌≡◌, ◌≤◌, ◌<◌, ◌+◌, ◌-◌, ◌^◌, ℕ, zero, suc, List, [], ◌∷◌, length, drop, Option, Some, None, ap, refl, ◌∙◌, arith, map, option_map, slice_get}
use Rattle.pi_base.specs.Lists.{Each}
use Rattle.store_model.specs.{declared.state.Entry.Entry, declared.state.Pending.Pending, declared.store_handle.DescKind.DescKind}
use Rattle.store_model.specs.declared.store_handle.DescKind.TheVariants.{Ppi, Callback, Dispatch}
use Rattle.store_model.specs.{declared.store_handle.EntryList.EntryList, StoreState.StoreState, HeapImage.heap_image}
use Rattle.store_model.specs.declared.store_handle.EntryList.TheVariants.{Ppis, Callbacks, Dispatches, Pendings}
use Rattle.store_model.specs.StateFacts.{IsEntry, IsPending, IsStoreState}
use Rattle.store_laws.specs.Chain.{DescriptorIsRead, IsHeaded, NodesAreInside, NumberIsRead, SecondIsRead}
use Rattle.store_laws.specs.Items.{Item, item_of, items, queued_item}
use Rattle.store_laws.specs.Word.{word_in}
use Rattle.store_laws.proofs.Facts.{heaps_are_low, images_fill}
use Rattle.pei_heap.specs.{declared.links.node.Node.Node, Node.node_of}

-- the item in a place, and those behind it
pub behind : {A : Type 0} (xs : List A) (i : ℕ) (x : A) → slice_get xs i ≡ Some x → (rest : List A) × (drop i xs ≡ x ∷ rest)
behind [] zero x e = cc
behind [] (suc i) x e = cc
behind (y ∷ ys) zero x e = let same : y ≡ x = cc in (ys, ap (λ (z : _). z ∷ ys) same)
behind (y ∷ ys) (suc i) x e = behind ys i x e

entries_fit : (s : StoreState) (kind : DescKind) (base : ℕ) (xs : List Entry) (i : ℕ) (item : Item) → Each (IsEntry s kind) xs → slice_get (map (item_of base) xs) i ≡ Some item → item.number < 2 ^ 32
entries_fit s kind base [] zero item h e = cc
entries_fit s kind base [] (suc i) item h e = cc
entries_fit s kind base (x ∷ xs) zero item h e = let same : item_of base x ≡ item = cc in let n : x.by ≡ item.number = ap (λ (y : Item). y.number) same in let fits = h.0.2 in omega (arith, n, fits)
entries_fit s kind base (x ∷ xs) (suc i) item h e = entries_fit s kind base xs i item h.1 e

pairs_fit : (s : StoreState) (base : ℕ) (xs : List Pending) (i : ℕ) (item : Item) → Each (IsPending s) xs → slice_get (map (queued_item base) xs) i ≡ Some item → item.number < 2 ^ 32
pairs_fit s base [] zero item h e = cc
pairs_fit s base [] (suc i) item h e = cc
pairs_fit s base (x ∷ xs) zero item h e = let same : queued_item base x ≡ item = cc in let n : x.by ≡ item.number = ap (λ (y : Item). y.number) same in let fits = h.0.3 in omega (arith, n, fits)
pairs_fit s base (x ∷ xs) (suc i) item h e = pairs_fit s base xs i item h.1 e

pub number_fits : (s : StoreState) (list : EntryList) (i : ℕ) (item : Item) → IsStoreState s → slice_get (items s list) i ≡ Some item → item.number < 2 ^ 32
number_fits s Ppis i item h e = entries_fit s Ppi s.base s.ppis i item h.ppis e
number_fits s Callbacks i item h e = entries_fit s Callback s.base s.callbacks i item h.callbacks e
number_fits s Dispatches i item h e = entries_fit s Dispatch s.base s.dispatches i item h.dispatches e
number_fits s Pendings i item h e = pairs_fit s s.base s.pendings i item h.pendings e

-- its bytes lie in the heap
pub node_inside : (s : StoreState) (list : EntryList) (heap : List ℕ) (base head place at : ℕ) (item : Item) → NodesAreInside → IsHeaded s list heap base head → slice_get (items s list) place ≡ Some item → at ≡ s.base + item.node
    → (base ≤ at) × (at - base + 32 ≤ length heap) × (at - base + 32 < 2 ^ 64)
node_inside s list heap base head place at item law h e here =
    let rest = behind (items s list) place item e in
    let inside = law s list place item rest.0 h.state rest.1 in
    let size : length heap ≡ s.len = ap length h.image ∙ images_fill s h.state in
    let start = h.start in
    let low : s.base + s.len ≤ 0x10000000000 = heaps_are_low s h.state in
    (omega (arith, here, start), omega (arith, here, start, size, inside.1), omega (arith, here, start, low, inside.1))

-- its fields
pub node_is : (s : StoreState) (list : EntryList) (heap : List ℕ) (base head place at descriptor second number : ℕ) (item : Item) → DescriptorIsRead → SecondIsRead → NumberIsRead → IsHeaded s list heap base head
    → slice_get (items s list) place ≡ Some item → at ≡ s.base + item.node
    → descriptor ≡ word_in heap (at - base + 8) → second ≡ word_in heap (at - base + 16) → number ≡ word_in heap (at - base + 24)
    → record { at = at; descriptor = descriptor; second = second; by = number } ≡ node_of s.base item
node_is s list heap base head place at descriptor second number item first next last h e here d t n =
    let rest = behind (items s list) place item e in
    let start = h.start in
    let there : at - base ≡ item.node = omega (arith, here, start) in
    let fits = number_fits s list place item h.state e in
    let d_is : descriptor ≡ item.descriptor = d ∙ ap (λ x. word_in x (at - base + 8)) h.image ∙ ap (λ k. word_in (heap_image s) (k + 8)) there ∙ first s list place item rest.0 h.state rest.1 in
    let t_is : second ≡ item.second = t ∙ ap (λ x. word_in x (at - base + 16)) h.image ∙ ap (λ k. word_in (heap_image s) (k + 16)) there ∙ next s list place item rest.0 h.state rest.1 in
    let n_is : number ≡ item.number = n ∙ ap (λ x. word_in x (at - base + 24)) h.image ∙ ap (λ k. word_in (heap_image s) (k + 24)) there ∙ last s list place item rest.0 h.state rest.1 (omega (arith, fits)) in
    let made : (a b c e : ℕ) → Node = λ a b c e. record { at = a; descriptor = b; second = c; by = e } in
    ap (λ a. made a descriptor second (number)) here ∙ ap (λ b. made (s.base + item.node) b second (number)) d_is
    ∙ ap (λ c. made (s.base + item.node) item.descriptor c (number)) t_is ∙ ap (λ x. made (s.base + item.node) item.descriptor item.second x) n_is

-- and its number fits
pub number_small : (s : StoreState) (list : EntryList) (heap : List ℕ) (base head place at number : ℕ) (item : Item) → NumberIsRead → IsHeaded s list heap base head
    → slice_get (items s list) place ≡ Some item → at ≡ s.base + item.node → number ≡ word_in heap (at - base + 24) → number < 2 ^ 32
number_small s list heap base head place at number item last h e here n =
    let rest = behind (items s list) place item e in
    let start = h.start in
    let there : at - base ≡ item.node = omega (arith, here, start) in
    let fits = number_fits s list place item h.state e in
    let n_is : number ≡ item.number = n ∙ ap (λ x. word_in x (at - base + 24)) h.image ∙ ap (λ k. word_in (heap_image s) (k + 24)) there ∙ last s list place item rest.0 h.state rest.1 (omega (arith, fits)) in
    omega (arith, n_is, fits)

-- the item of an address that was found
pub found_item : (s : StoreState) (list : List Item) (at : ℕ) (found : Option Item) → Some at ≡ option_map (λ (item : Item). s.base + item.node) found → (item : Item) × (found ≡ Some item) × (at ≡ s.base + item.node)
found_item s list at None e = cc
found_item s list at (Some item) e = (item, refl, cc)

pub none_item : (s : StoreState) (found : Option Item) → None ≡ option_map (λ (item : Item). s.base + item.node) found → None ≡ option_map (node_of s.base) found
none_item s None e = refl
none_item s (Some item) e = cc
