-- The entries of a list are told one behind the other, each once, since their nodes differ.
use Rattle.std.proofs.Common.{◌≡◌, ◌≢◌, ℕ, ◌+◌, ◌<◌, ◌≤◌, ◌^◌, Bool, true, false, cond, List, [], ◌∷◌, ◌++◌, length, ap, arith, refl, sym, subst, ◌∙◌, Option, Some, None, ◌==◌, eqb, map, ◌||◌, slice_get}
use Rattle.std.specs.List.{list_any}
use Rattle.std.proofs.{lemmas.Bool.Decides.Decides-eqb, lemmas.Bool.Decides.nat_tests, lemmas.Map.Made.IsDistinct-from_AllPairs}
use Rattle.std.proofs.{lemmas.Map.Steps.length-le_from_distinct_below, lemmas.List.length-map, lemmas.List.map-append}
use Rattle.pi_base.specs.Lists.{Each}
use Rattle.pi_base.proofs.ListFacts.{each_more, each_of_map}
use Rattle.store_model.specs.{declared.limits.TheConstants.NOTE_NUMBERS, declared.store_handle.EntryList.EntryList}
use Rattle.store_model.specs.declared.store_handle.EntryList.TheVariants.{Ppis, Callbacks, Dispatches, Pendings}
use Rattle.store_model.specs.{declared.store_handle.EntryTold.EntryTold, declared.store_handle.DescKind.DescKind}
use Rattle.store_model.specs.declared.store_handle.DescKind.TheVariants.{Ppi, Callback, Dispatch}
use Rattle.store_model.specs.{declared.state.Body.TheVariants.Node, declared.state.Entry.Entry, declared.state.Pending.Pending}
use Rattle.store_model.specs.StoreState.{StoreState, end_place, handoff_len}
use Rattle.store_model.specs.StateFacts.{IsDescriptorAt, IsEntry, IsNodeAt, IsPending, IsStoreState}
use Rattle.store_model.specs.Service.Descriptor.{number_at}
use Rattle.store_model.specs.Service.Reading.{behind_node, entry_behind, entry_told, pending_told, told_behind, told_of}
use Rattle.store_laws.specs.Behind.{EntriesAreTold, IsToldFirst, left_behind}
use Rattle.store_laws.proofs.Items.{differ_from, each_left, each_right, each_to_map, ordered_left, ordered_right, pairs_of_ordered}
use Rattle.store_laws.proofs.{Bodies.body_before, Fits.all_fit, Named.entry_of, Named.named}
use Rattle.store_laws.proofs.Sound.{Differ, node_of, pending_node, sound_of}

abbrev told_node : EntryTold → ℕ
told_node told = told.node

-- what is left is the end of the list
record IsEnd (all left : List EntryTold) : Type 0 where
  before : List EntryTold
  is : all ≡ before ++ left

end_on : (told : EntryTold) (rest : List EntryTold) (node : ℕ) (b : Bool) → IsEnd rest (behind_node node rest) → IsEnd (told ∷ rest) (cond b rest (behind_node node rest))
end_on told rest node true later = record { before = told ∷ []; is = refl }
end_on told rest node false later = record { before = told ∷ later.before; is = ap (λ xs. told ∷ xs) later.is }

end_of : (node : ℕ) (all : List EntryTold) → IsEnd all (behind_node node all)
end_of node [] = record { before = []; is = refl }
end_of node (told ∷ rest) = end_on told rest node (told.node == node) (end_of node rest)

left_end : (node : Option ℕ) (all : List EntryTold) → IsEnd all (told_behind node all)
left_end None all = record { before = []; is = refl }
left_end (Some node) all = end_of node all

-- behind the node of one that others stand before
passed : (a b : ℕ) → a ≢ b → (b' : Bool) → (a == b) ≡ b' → b' ≡ false
passed a b h true e = let same : a ≡ b = grind (arith, nat_tests, e) in absurd (h same)
passed a b h false e = refl

same_node : (n : ℕ) → (n == n) ≡ true
same_node n = grind (arith, nat_tests)

behind_it : (before : List EntryTold) (told : EntryTold) (rest : List EntryTold) → Each (λ t. told_node t ≢ told.node) before → behind_node told.node (before ++ told ∷ rest) ≡ rest
behind_it [] told rest h = rw (same_node told.node) refl
behind_it (t ∷ before) told rest h = rw (passed t.node told.node h.0 (t.node == told.node) refl) (behind_it before told rest h.1)

or_true : (a : Bool) → (a || true) ≡ true
or_true true = refl
or_true false = refl

has_it : (before : List EntryTold) (told : EntryTold) (rest : List EntryTold) → list_any (λ t. t.node == told.node) (before ++ told ∷ rest) ≡ true
has_it [] told rest = rw (same_node told.node) refl
has_it (t ∷ before) told rest = rw (has_it before told rest) (or_true (t.node == told.node))

-- the first of what is left
first_is : (left : List EntryTold) (told : EntryTold) → slice_get left 0 ≡ Some told → (rest : List EntryTold) × (left ≡ told ∷ rest)
first_is [] told e = cc
first_is (t ∷ rest) told e = let same : t ≡ told = cc in (rest, ap (λ x. x ∷ rest) same)

-- the nodes of a list differ
told_entries : (s : StoreState) (entries : List Entry) → map told_node (map (entry_told s) entries) ≡ map node_of entries
told_entries s [] = refl
told_entries s (entry ∷ entries) = ap (λ xs. entry.node ∷ xs) (told_entries s entries)

told_pendings : (s : StoreState) (pendings : List Pending) → map told_node (map (pending_told s) pendings) ≡ map pending_node pendings
told_pendings s [] = refl
told_pendings s (pending ∷ pendings) = ap (λ xs. pending.node ∷ xs) (told_pendings s pendings)

told_differ : (s : StoreState) (list : EntryList) → IsStoreState s → Differ (map told_node (told_of s list))
told_differ s Ppis h = subst Differ (sym (told_entries s s.ppis)) (ordered_left (λ a b. a ≢ b) (map node_of s.ppis) _ (sound_of s h).nodes)
told_differ s Callbacks h =
    subst Differ (sym (told_entries s s.callbacks)) (ordered_left (λ a b. a ≢ b) (map node_of s.callbacks) _ (ordered_right (λ a b. a ≢ b) (map node_of s.ppis) _ (sound_of s h).nodes))
told_differ s Dispatches h =
    let R : ℕ → ℕ → Type 0 = λ a b. a ≢ b in
    let rest = ordered_right R (map node_of s.callbacks) _ (ordered_right R (map node_of s.ppis) _ (sound_of s h).nodes) in
    subst Differ (sym (told_entries s s.dispatches)) (ordered_left R (map node_of s.dispatches) _ rest)
told_differ s Pendings h =
    let R : ℕ → ℕ → Type 0 = λ a b. a ≢ b in
    let rest = ordered_right R (map node_of s.callbacks) _ (ordered_right R (map node_of s.ppis) _ (sound_of s h).nodes) in
    subst Differ (sym (told_pendings s s.pendings)) (ordered_right R (map node_of s.dispatches) _ rest)

told_first : (s : StoreState) (list : EntryList) (node : Option ℕ) (told : EntryTold) → IsStoreState s → entry_behind s list node ≡ Some told → IsToldFirst s list node told
told_first s list node told h e =
    let all = told_of s list in
    let found = first_is (told_behind node all) told e in
    let rest = found.0 in
    let end = left_end node all in
    let is : all ≡ end.before ++ told ∷ rest = end.is ∙ ap (λ xs. end.before ++ xs) found.1 in
    let parts : map told_node all ≡ map told_node end.before ++ told.node ∷ map told_node rest = ap (map told_node) is ∙ map-append told_node end.before (told ∷ rest) in
    let others = differ_from (map told_node end.before) (map told_node rest) told.node (subst Differ parts (told_differ s list h)) in
    let before = each_of_map (λ n. n ≢ told.node) told_node end.before (each_left (λ n. n ≢ told.node) (map told_node end.before) (map told_node rest) others) in
    let left : behind_node told.node all ≡ rest = ap (behind_node told.node) is ∙ behind_it end.before told rest before in
    record { is_in = ap (list_any (λ t. t.node == told.node)) is ∙ has_it end.before told rest; left = found.1 ∙ ap (λ xs. told ∷ xs) (sym left) }

none_left : (left : List EntryTold) → slice_get left 0 ≡ None → left ≡ []
none_left [] e = refl
none_left (t ∷ rest) e = cc

-- a list is no longer than there are places for its nodes
abbrev IsBelow : StoreState → ℕ → Type 0
IsBelow s node = node < end_place s + 1

node_below : (s : StoreState) (place : ℕ) → IsNodeAt s place → IsBelow s place
node_below s place h = body_before s.hobs handoff_len place Node h

entries_below : (s : StoreState) (kind : DescKind) (entries : List Entry) → Each (IsEntry s kind) entries → Each (IsBelow s) (map node_of entries)
entries_below s kind entries h = each_to_map (IsBelow s) node_of entries (each_more (IsEntry s kind) (λ entry. IsBelow s entry.node) entries (λ entry is. node_below s entry.node is.0) h)

pendings_below : (s : StoreState) (pendings : List Pending) → Each (IsPending s) pendings → Each (IsBelow s) (map pending_node pendings)
pendings_below s pendings h = each_to_map (IsBelow s) pending_node pendings (each_more (IsPending s) (λ pending. IsBelow s pending.node) pendings (λ pending is. node_below s pending.node is.0) h)

told_below : (s : StoreState) (list : EntryList) → IsStoreState s → Each (IsBelow s) (map told_node (told_of s list))
told_below s Ppis h = subst (Each (IsBelow s)) (sym (told_entries s s.ppis)) (entries_below s Ppi s.ppis h.ppis)
told_below s Callbacks h = subst (Each (IsBelow s)) (sym (told_entries s s.callbacks)) (entries_below s Callback s.callbacks h.callbacks)
told_below s Dispatches h = subst (Each (IsBelow s)) (sym (told_entries s s.dispatches)) (entries_below s Dispatch s.dispatches h.dispatches)
told_below s Pendings h = subst (Each (IsBelow s)) (sym (told_pendings s s.pendings)) (pendings_below s s.pendings h.pendings)

-- a number that is found in a list has what each of its items has
found_on : (b c : Bool) (P : Type 0) → (b ≡ true → P) → (c ≡ true → P) → (b || c) ≡ true → P
found_on true c P f g h = f refl
found_on false c P f g h = g h

found_in : (last number : ℕ) (numbers : List ℕ) → Each (λ n. n < last) numbers → list_any (eqb number) numbers ≡ true → number < last
found_in last number [] h e = cc
found_in last number (n ∷ numbers) h e =
    found_on (eqb number n) (list_any (eqb number) numbers) (number < last) (λ t. let same : number ≡ n = grind (arith, nat_tests, t) in omega (arith, same, h.0)) (λ t. found_in last number numbers h.1 t) e

few_below : (last : ℕ) (numbers : List ℕ) → Differ numbers → Each (λ n. n < last) numbers → length numbers ≤ last
few_below last numbers differ below =
    length-le_from_distinct_below numbers last (IsDistinct-from_AllPairs Decides-eqb numbers (pairs_of_ordered (λ a b. a ≢ b) numbers differ)) (λ n e. found_in last n numbers below e)

few_told : (s : StoreState) (list : EntryList) → IsStoreState s → length (told_of s list) < 2 ^ 28
few_told s list h =
    let few = few_below (end_place s + 1) (map told_node (told_of s list)) (told_differ s list h) (told_below s list h) in
    let len = length-map (told_of s list) told_node in
    let most = (all_fit.heap s h).len in
    let room = h.room in
    omega (arith, few, len, most, room)

-- the number of each notification, and so of the first that is left
abbrev HasBlock : EntryTold → Type 0
HasBlock told = told.number < NOTE_NUMBERS

note_number : (s : StoreState) (kind : DescKind) (place : ℕ) → IsStoreState s → kind ≢ Ppi → IsDescriptorAt s kind place → number_at s place < NOTE_NUMBERS
note_number s kind place h other is = entry_of kind (number_at s place) other (named s kind place h is).number_is

entry_numbers : (s : StoreState) (kind : DescKind) (entries : List Entry) → IsStoreState s → kind ≢ Ppi → Each (IsEntry s kind) entries → Each HasBlock (map (entry_told s) entries)
entry_numbers s kind entries h other are =
    each_to_map HasBlock (entry_told s) entries (each_more (IsEntry s kind) (λ entry. HasBlock (entry_told s entry)) entries (λ entry is. note_number s kind entry.descriptor h other is.1) are)

pending_numbers : (s : StoreState) (pendings : List Pending) → IsStoreState s → Each (IsPending s) pendings → Each HasBlock (map (pending_told s) pendings)
pending_numbers s pendings h are =
    each_to_map HasBlock (pending_told s) pendings (each_more (IsPending s) (λ pending. HasBlock (pending_told s pending)) pendings (λ pending is. note_number s Dispatch pending.descriptor h (λ e. cc) is.1) are)

told_numbers : (s : StoreState) (list : EntryList) → IsStoreState s → list ≢ Ppis → Each HasBlock (told_of s list)
told_numbers s Ppis h other = absurd (other refl)
told_numbers s Callbacks h other = entry_numbers s Callback s.callbacks h (λ e. cc) h.callbacks
told_numbers s Dispatches h other = entry_numbers s Dispatch s.dispatches h (λ e. cc) h.dispatches
told_numbers s Pendings h other = pending_numbers s s.pendings h h.pendings

told_number : (s : StoreState) (list : EntryList) (node : Option ℕ) (told : EntryTold) → IsStoreState s → list ≢ Ppis → entry_behind s list node ≡ Some told → HasBlock told
told_number s list node told h other e =
    let found = first_is (told_behind node (told_of s list)) told e in
    let end = left_end node (told_of s list) in
    let left = each_right HasBlock end.before (told_behind node (told_of s list)) (subst (Each HasBlock) end.is (told_numbers s list h other)) in
    (subst (Each HasBlock) found.1 left).0

pub all_told : EntriesAreTold
all_told = record {
  first = told_first;
  last = λ s list node e. none_left (left_behind s list node) e;
  few = few_told;
  number = λ s list node told h other e. told_number s list node told h other e;
}
