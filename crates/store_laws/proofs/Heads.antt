-- The addresses of the first and the last node of a list.
use Rattle.std.proofs.Common.{◌≢◌, ◌≤◌, ◌≡◌, ℕ, ◌+◌, ◌-◌, Bool, true, false, cond, List, [], ◌∷◌, ◌++◌, length, drop, arith, ap, refl, sym, ◌∙◌, ◌==◌, map}
use Rattle.pi_base.specs.Field.{little_bytes, ReadsWhatItSpells}
use Rattle.phys_mem.specs.Region.{replaced}
use Rattle.store_model.specs.{declared.state.Entry.Entry, declared.state.Pending.Pending, StoreState.StoreState, StoreState.end_place}
use Rattle.store_model.specs.{StateFacts.IsStoreState, HeapImage.heap_image, Service.Install.renamed}
use Rattle.store_model.specs.{declared.store_handle.EntryList.EntryList, declared.store_handle.EntryList.TheVariants.Pendings}
use Rattle.store_laws.specs.Items.{Item, item_of, queued_item, items, places_of, first_address}
use Rattle.store_laws.specs.{Linking.last_place, Linking.named_by, Word.word_in}
use Rattle.store_laws.specs.Heads.{last_address, named_at, LastIsNamed, LastIsInside, FirstIsPushed, LastIsPushed, ItemsArePushed, FirstIsPopped, LastIsPopped, PlacesAreKept, EndsAreKept}
use Rattle.store_laws.proofs.{Lists.map_append, HeapItems.other_is, Nodes.node_place, Nodes.next_is_read}
use Rattle.store_laws.proofs.Ends.{Ends, ends_none, ends_at, ends_of, last_is, drop_front}

pub last_is_pushed : LastIsPushed
last_is_pushed base [] new = refl
last_is_pushed base (item ∷ []) new = refl
last_is_pushed base (item ∷ next ∷ list) new = last_is_pushed base (next ∷ list) new

-- a node's address is not 0
some_node : (s : StoreState) (list : EntryList) (i : ℕ) (item : Item) (rest : List Item) → IsStoreState s → drop i (items s list) ≡ item ∷ rest → (s.base + item.node == 0) ≡ false
some_node s list i item rest h e = let place = node_place s list i item rest h e in other_is (s.base + item.node) 0 (λ z. absurd (omega (arith, z, place.0)))

named_on : (s : StoreState) (list : EntryList) (address : ℕ) (heap : List ℕ) → IsStoreState s → Ends (items s list) → named_by (last_place (places_of (items s list))) address heap ≡ named_at s.base (last_address s.base (items s list)) address heap
named_on s list address heap h (ends_none e) =
    let left : named_by (last_place (places_of (items s list))) address heap ≡ heap = ap (λ x. named_by (last_place (places_of x)) address heap) e in
    let right : named_at s.base (last_address s.base (items s list)) address heap ≡ heap = ap (λ x. named_at s.base (last_address s.base x) address heap) e in
    left ∙ sym right
named_on s list address heap h (ends_at front last e) =
    let there : drop (length front) (items s list) ≡ last ∷ [] = ap (drop (length front)) e ∙ drop_front front (last ∷ []) in
    let t : (s.base + last.node == 0) ≡ false = some_node s list (length front) last [] h there in
    let text = replaced heap last.node (little_bytes 8 address) in
    let left : named_by (last_place (places_of (items s list))) address heap ≡ text =
    ap (λ x. named_by (last_place (places_of x)) address heap) e ∙ ap (λ x. named_by x address heap) (last_is front last) in
    let tail : last_address s.base (items s list) ≡ s.base + last.node = ap (last_address s.base) e ∙ last_is_pushed s.base front last in
    let place : s.base + last.node - s.base ≡ last.node = omega arith in
    let right : named_at s.base (s.base + last.node) address heap ≡ text =
    ap (λ b. cond b heap (replaced heap (s.base + last.node - s.base) (little_bytes 8 address))) t ∙ ap (λ n. replaced heap n (little_bytes 8 address)) place in
    left ∙ sym (ap (λ n. named_at s.base n address heap) tail ∙ right)

pub last_is_named : LastIsNamed
last_is_named s list address heap h = named_on s list address heap h (ends_of (items s list))

inside_on : (s : StoreState) (list : EntryList) → IsStoreState s → last_address s.base (items s list) ≢ 0 → Ends (items s list)
    → (s.base + 64 ≤ last_address s.base (items s list)) × (last_address s.base (items s list) + 32 ≤ s.base + end_place s)
inside_on s list h some (ends_none e) = absurd (some (ap (last_address s.base) e))
inside_on s list h some (ends_at front last e) =
    let there : drop (length front) (items s list) ≡ last ∷ [] = ap (drop (length front)) e ∙ drop_front front (last ∷ []) in
    let place = node_place s list (length front) last [] h there in
    let tail : last_address s.base (items s list) ≡ s.base + last.node = ap (last_address s.base) e ∙ last_is_pushed s.base front last in
    (omega (arith, tail, place.0), omega (arith, tail, place.1))

pub last_is_inside : LastIsInside
last_is_inside s list h some = inside_on s list h some (ends_of (items s list))

-- an item more
first_on : (base : ℕ) (list : List Item) (new : Item) → ((item : Item) (rest : List Item) → list ≡ item ∷ rest → (base + item.node == 0) ≡ false)
    → first_address base (list ++ new ∷ []) ≡ cond (first_address base list == 0) (base + new.node) (first_address base list)
first_on base [] new f = refl
first_on base (item ∷ list) new f = sym (ap (λ b. cond b (base + new.node) (base + item.node)) (f item list refl))

pub first_is_pushed : FirstIsPushed
first_is_pushed s list new h = first_on s.base (items s list) new (λ item rest e. some_node s list 0 item rest h e)

pub items_are_pushed : ItemsArePushed
items_are_pushed = record {
  ppi = λ s by d. map_append (item_of s.base) s.ppis _;
  callback = λ s by d. map_append (item_of s.base) s.callbacks _;
  dispatch = λ s by d. map_append (item_of s.base) s.dispatches _;
  pair = λ s by pair. map_append (queued_item s.base) s.pendings _;
}

-- the queue without its first pair
pub first_is_popped : ReadsWhatItSpells → FirstIsPopped
first_is_popped law s first rest h e = sym (next_is_read law s Pendings 0 (queued_item s.base first) (map (queued_item s.base) rest) h (ap (map (queued_item s.base)) e))

last_on : (s : StoreState) (first : Pending) (rest : List Pending) → IsStoreState s → s.pendings ≡ first ∷ rest
    → last_address s.base (map (queued_item s.base) rest) ≡ cond (first_address s.base (map (queued_item s.base) rest) == 0) 0 (last_address s.base (map (queued_item s.base) (first ∷ rest)))
last_on s first [] h e = refl
last_on s first (next ∷ rest) h e =
    let t : (s.base + next.node == 0) ≡ false = some_node s Pendings 1 (queued_item s.base next) (map (queued_item s.base) rest) h (ap (λ x. drop 1 (map (queued_item s.base) x)) e) in
    sym (ap (λ b. cond b 0 (last_address s.base (map (queued_item s.base) (next ∷ rest)))) t)

pub last_is_popped : ReadsWhatItSpells → LastIsPopped
last_is_popped law s first rest h e =
    let whole : last_address s.base (items s Pendings) ≡ last_address s.base (map (queued_item s.base) (first ∷ rest)) = ap (λ x. last_address s.base (map (queued_item s.base) x)) e in
    last_on s first rest h e ∙ ap (λ n. cond (n == 0) 0 (last_address s.base (map (queued_item s.base) (first ∷ rest)))) (first_is_popped law s first rest h e)
    ∙ ap (λ n. cond (word_in (heap_image s) first.node == 0) 0 n) (sym whole)

-- the same places
kept_on : (base : ℕ) (entry : Entry) (entries rest : List Entry) (new : ℕ) (b : Bool) → places_of (map (item_of base) rest) ≡ places_of (map (item_of base) entries)
    → places_of (map (item_of base) (cond b (record entry { descriptor = new } ∷ entries) (entry ∷ rest))) ≡ entry.node ∷ places_of (map (item_of base) entries)
kept_on base entry entries rest new true e = refl
kept_on base entry entries rest new false e = ap (λ xs. entry.node ∷ xs) e

places_kept : (base : ℕ) (entries : List Entry) (old new : ℕ) → places_of (map (item_of base) (renamed entries old new)) ≡ places_of (map (item_of base) entries)
places_kept base [] old new = refl
places_kept base (entry ∷ entries) old new = kept_on base entry entries (renamed entries old new) new (entry.descriptor == old) (places_kept base entries old new)

pub places_are_kept : PlacesAreKept
places_are_kept s old new = places_kept s.base s.ppis old new

last_kept : (base : ℕ) (a b : List Item) → places_of a ≡ places_of b → last_address base a ≡ last_address base b
last_kept base [] [] e = refl
last_kept base [] (y ∷ b) e = cc
last_kept base (x ∷ a) [] e = cc
last_kept base (x ∷ []) (y ∷ []) e = let same : x.node ≡ y.node = cc in ap (λ n. base + n) same
last_kept base (x ∷ []) (y ∷ w ∷ b) e = cc
last_kept base (x ∷ z ∷ a) (y ∷ []) e = cc
last_kept base (x ∷ z ∷ a) (y ∷ w ∷ b) e = let later : places_of (z ∷ a) ≡ places_of (w ∷ b) = cc in last_kept base (z ∷ a) (w ∷ b) later

first_kept : (base : ℕ) (a b : List Item) → places_of a ≡ places_of b → first_address base a ≡ first_address base b
first_kept base [] [] e = refl
first_kept base [] (y ∷ b) e = cc
first_kept base (x ∷ a) [] e = cc
first_kept base (x ∷ a) (y ∷ b) e = let same : x.node ≡ y.node = cc in ap (λ n. base + n) same

pub ends_are_kept : EndsAreKept
ends_are_kept base a b e = (first_kept base a b e, last_kept base a b e)
