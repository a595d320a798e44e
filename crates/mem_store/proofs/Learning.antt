-- Nodes of PPIs that are learned one behind another, and what is known of them after a call.
use Rattle.std.proofs.Common.{◌≡◌, ℕ, zero, suc, ◌-◌, ◌<◌, ◌≤◌, Bool, true, false, List, [], ◌∷◌, ◌++◌, length, drop, map, Option, Some, None, ap, refl, sym, subst, ◌∙◌, arith, slice_get, option_map, append_assoc, length-append, slice_set}
use Rattle.std.proofs.lemmas.List.{length-map}
use Rattle.store_model.specs.{declared.state.Entry.Entry, declared.store_handle.EntryTold.EntryTold}
use Rattle.store_model.specs.{declared.store_handle.EntryList.TheVariants.Ppis, StoreState.StoreState, StateFacts.IsStoreState}
use Rattle.store_model.specs.StoreCall.{IsNodeIn}
use Rattle.store_model.specs.Service.Reading.{entry_behind, entry_told, told_of}
use Rattle.store_laws.specs.Behind.{EntriesAreTold, left_behind}
use Rattle.mem_store.specs.{declared.guid_index.index.Indexed.Indexed, declared.named.Named.Named, Rows.row_at}
use Rattle.mem_store.specs.Nodes.{Begins, CanLearn, Follows, NamesOther, key_of, last_node, named_row, named_rows, with_other}
use Rattle.mem_store.proofs.{Meetings.get_row, Services.joined, Services.nothing_more}

get_map : {A B : Type 0} (f : A → B) (xs : List A) (k : ℕ) → slice_get (map f xs) k ≡ option_map f (slice_get xs k)
get_map f [] k = refl
get_map f (x ∷ xs) zero = refl
get_map f (x ∷ xs) (suc k) = get_map f xs k

get_front : {A : Type 0} (xs ys : List A) (k : ℕ) → k < length xs → slice_get (xs ++ ys) k ≡ slice_get xs k
get_front [] ys k less = absurd (omega (arith, less))
get_front (x ∷ xs) ys zero less = refl
get_front (x ∷ xs) ys (suc k) less = get_front xs ys k (omega (arith, less))

get_within : {A : Type 0} (xs : List A) (k : ℕ) → k < length xs → (x : A) × (slice_get xs k ≡ Some x)
get_within [] k less = absurd (omega (arith, less))
get_within (x ∷ xs) zero less = (x, refl)
get_within (x ∷ xs) (suc k) less = get_within xs k (omega (arith, less))

get_drop : {A : Type 0} (xs : List A) (k : ℕ) → slice_get (drop k xs) 0 ≡ slice_get xs k
get_drop [] zero = refl
get_drop [] (suc k) = refl
get_drop (x ∷ xs) zero = refl
get_drop (x ∷ xs) (suc k) = get_drop xs k

drop_next : {A : Type 0} (xs : List A) (k : ℕ) (x : A) (rest : List A) → drop k xs ≡ x ∷ rest → drop (suc k) xs ≡ rest
drop_next [] zero x rest e = cc
drop_next [] (suc k) x rest e = cc
drop_next (y ∷ ys) zero x rest e = cc
drop_next (y ∷ ys) (suc k) x rest e = drop_next ys k x rest e

-- the node before a place
abbrev node_before : List Entry → ℕ → Option ℕ
node_before entries zero = None
node_before entries (suc k) = option_map (λ (entry : Entry). entry.node) (slice_get entries k)

-- behind a node are the entries from a place on
pub record IsAt (s : StoreState) (node : Option ℕ) (from : ℕ) : Type 0 where
  pub is_in : IsNodeIn Ppis node s
  pub left : left_behind s Ppis node ≡ drop from (told_of s Ppis)

-- what is told at a place
told_there : (s : StoreState) (k : ℕ) (entry : Entry) → slice_get s.ppis k ≡ Some entry → slice_get (told_of s Ppis) k ≡ Some (entry_told s entry)
told_there s k entry there = get_map (entry_told s) s.ppis k ∙ ap (option_map (entry_told s)) there

behind_at : (s : StoreState) (node : Option ℕ) (k : ℕ) (entry : Entry) → IsAt s node k → slice_get s.ppis k ≡ Some entry → entry_behind s Ppis node ≡ Some (entry_told s entry)
behind_at s node k entry at there = ap (λ l. slice_get l 0) at.left ∙ get_drop (told_of s Ppis) k ∙ told_there s k entry there

pub standing : EntriesAreTold → (s : StoreState) → IsStoreState s → (k : ℕ) → k ≤ length s.ppis → IsAt s (node_before s.ppis k) k
standing law s state zero le = record { is_in = tt; left = refl }
standing law s state (suc k) le =
    let at = standing law s state k (omega (arith, le)) in
    let entry = get_within s.ppis k (omega (arith, le)) in
    let node = node_before s.ppis k in
    let told : EntryTold = entry_told s entry.0 in
    let first = law.first s Ppis node told state (behind_at s node k entry.0 at entry.1) in
    let here : IsAt s (Some entry.0.node) (suc k) =
    record { is_in = first.is_in; left = sym (drop_next (told_of s Ppis) k told (left_behind s Ppis (Some entry.0.node)) (sym at.left ∙ first.left)) } in
    subst (λ n. IsAt s n (suc k)) (sym (ap (option_map (λ (e : Entry). e.node)) entry.1)) here

-- the node of a row
at_of : (o : Option Entry) → option_map (λ (row : Indexed). row.at) (option_map named_row o) ≡ option_map (λ (entry : Entry). entry.node) o
at_of None = refl
at_of (Some entry) = refl

last_on : (x : Indexed) (xs rest : List Indexed) (entries : List Entry) → map named_row entries ≡ (x ∷ xs) ++ rest
    → option_map (λ (row : Indexed). row.at) (slice_get (x ∷ xs) (length xs)) ≡ option_map (λ (entry : Entry). entry.node) (slice_get entries (length xs))
last_on x xs rest entries is =
    let n = length xs in
    ap (option_map (λ (row : Indexed). row.at)) (sym (get_front (x ∷ xs) rest n (omega arith)) ∙ ap (λ l. slice_get l n) (sym is) ∙ get_map named_row entries n)
    ∙ at_of (slice_get entries n)

last_is : (nodes : List Indexed) (s : StoreState) → Begins nodes (named_rows s) → last_node nodes ≡ node_before s.ppis (length nodes)
last_is [] s begins = refl
last_is (x ∷ xs) s begins =
    let one : suc (length xs) - 1 ≡ length xs = omega arith in
    ap (λ n. option_map (λ (row : Indexed). row.at) (slice_get (x ∷ xs) n)) one ∙ last_on x xs begins.0 s.ppis begins.1

few : (nodes : List Indexed) (s : StoreState) → Begins nodes (named_rows s) → length nodes ≤ length s.ppis
few nodes s begins =
    let all = sym (length-map s.ppis named_row) ∙ ap length begins.1 ∙ length-append nodes begins.0 in
    omega (arith, all)

-- behind the last known node is the next PPI
pub last_at : EntriesAreTold → (s : StoreState) (nodes : List Indexed) → IsStoreState s → Begins nodes (named_rows s) → IsAt s (last_node nodes) (length nodes)
last_at law s nodes state begins = subst (λ n. IsAt s n (length nodes)) (sym (last_is nodes s begins)) (standing law s state (length nodes) (few nodes s begins))

get_back : {A : Type 0} (xs ys : List A) → slice_get (xs ++ ys) (length xs) ≡ slice_get ys 0
get_back [] ys = refl
get_back (x ∷ xs) ys = get_back xs ys

more_on : (nodes rest all : List Indexed) (row : Indexed) → all ≡ nodes ++ rest → slice_get rest 0 ≡ Some row → Begins (nodes ++ row ∷ []) all
more_on nodes [] all row is there = absurd (let no : None ≡ Some row = there in cc)
more_on nodes (x ∷ rest) all row is there =
    let same : x ≡ row = cc in
    (rest, is ∙ ap (λ r. nodes ++ r ∷ rest) same ∙ sym (joined nodes row rest))

one_more : (s : StoreState) (nodes : List Indexed) (row : Indexed) → Begins nodes (named_rows s) → slice_get (named_rows s) (length nodes) ≡ Some row
    → Begins (nodes ++ row ∷ []) (named_rows s)
one_more s nodes row begins there =
    more_on nodes begins.0 (named_rows s) row begins.1 (sym (get_back nodes begins.0) ∙ ap (λ l. slice_get l (length nodes)) (sym begins.1) ∙ there)

-- the entry whose row is at a place
entry_of : (s : StoreState) (o : Option Entry) (row : Indexed) → option_map (λ (entry : Entry). row_at s entry.descriptor) o ≡ Some row
    → (entry : Entry) × (o ≡ Some entry) × (row ≡ row_at s entry.descriptor)
entry_of s None row is = absurd (let no : None ≡ Some row = is in cc)
entry_of s (Some entry) row is = let same : row ≡ row_at s entry.descriptor = cc in (entry, refl, same)

pub some_one : {A : Type 0} (a b : A) → Some a ≡ Some b → a ≡ b
some_one a b is = cc

-- the row of a node under a descriptor's offset
abbrev row_under : ℕ → ℕ → Indexed
row_under offset node = record { guid = key_of offset; at = node }

made_row : (a b x y : ℕ) → a ≡ b → x ≡ y → row_under a x ≡ row_under b y
made_row a b x y e f = ap (λ n. row_under n x) e ∙ ap (row_under b) f

pub learned : EntriesAreTold → (s : StoreState) (nodes ppis new : List Indexed) (row : Indexed) (told : EntryTold) (b : Bool) → IsStoreState s → CanLearn nodes ppis s
    → slice_get ppis (length nodes) ≡ Some row → Some told ≡ entry_behind s Ppis (last_node nodes)
    → (b ≡ true → new ≡ nodes ++ record { guid = key_of row.at; at = told.node } ∷ []) → (b ≡ false → new ≡ nodes) → Begins new (named_rows s)
learned law s nodes ppis new row told false state can there is pushed same = subst (λ l. Begins l (named_rows s)) (sym (same refl)) can.1
learned law s nodes ppis new row told true state can there is pushed same =
    let k = length nodes in
    let found = entry_of s (slice_get s.ppis k) row (sym (get_row s s.ppis k) ∙ ap (λ l. slice_get l k) (sym can.0) ∙ there) in
    let entry = found.0 in
    let told_is : told ≡ entry_told s entry = some_one told (entry_told s entry) (is ∙ behind_at s (last_node nodes) k entry (last_at law s nodes state can.1) found.1) in
    let made = made_row row.at entry.descriptor told.node entry.node (ap (λ (r : Indexed). r.at) found.2) (ap (λ (t : EntryTold). t.node) told_is) in
    let here : slice_get (named_rows s) k ≡ Some (row_under row.at told.node) =
    get_map named_row s.ppis k ∙ ap (option_map named_row) found.1 ∙ ap (λ r. Some r) (sym made) in
    subst (λ l. Begins l (named_rows s)) (sym (pushed refl)) (one_more s nodes (row_under row.at told.node) can.1 here)

-- all are known where there are as many as PPIs
all_on : (nodes rest all : List Indexed) → all ≡ nodes ++ rest → length nodes ≡ length all → nodes ≡ all
all_on nodes [] all is long = sym (is ∙ nothing_more nodes)
all_on nodes (x ∷ rest) all is long =
    let len = ap length is ∙ length-append nodes (x ∷ rest) in
    absurd (omega (arith, len, long))

pub all_known : (s : StoreState) (nodes ppis : List Indexed) → CanLearn nodes ppis s → length nodes ≡ length ppis → nodes ≡ named_rows s
all_known s nodes ppis can long =
    let rows : length ppis ≡ length (named_rows s) =
    ap length can.0 ∙ length-map (map (λ (entry : Entry). entry.descriptor) s.ppis) (row_at s) ∙ length-map s.ppis (λ (entry : Entry). entry.descriptor) ∙ sym (length-map s.ppis named_row) in
    all_on nodes can.1.0 (named_rows s) can.1.1 (long ∙ rows)

-- what is known where the PPIs are the same, more, or one names another descriptor
pub still : (named : Named) (s t : StoreState) → named_rows t ≡ named_rows s → Follows named s → Follows named t
still named s t same follows right = subst (Begins named.nodes) (sym same) (follows right)

pub grown : (named new : Named) (s t : StoreState) → new ≡ named → Begins (named_rows s) (named_rows t) → Follows named s → Follows new t
grown named new s t same more follows =
    subst (λ n. Follows n t) (sym same) (λ right.
    let known = follows right in
    (known.0 ++ more.0, more.1 ∙ ap (λ l. l ++ more.0) known.1 ∙ append_assoc named.nodes known.0 more.0))

other_front : (xs rest : List Indexed) (place at : ℕ) → Begins (with_other xs place at) (with_other (xs ++ rest) place at)
other_front [] rest place at = (with_other rest place at, refl)
other_front (x ∷ xs) rest zero at = (rest, refl)
other_front (x ∷ xs) rest (suc place) at = let later = other_front xs rest place at in (later.0, ap (λ l. x ∷ l) later.1)

pub other : (old new : Named) (s t : StoreState) (place at place' at' : ℕ) → place ≡ place' → at ≡ at' → named_rows t ≡ with_other (named_rows s) place' at'
    → NamesOther old new place at → Follows old s → Follows new t
other old new s t place at place' at' here there is names follows right =
    let was = names right in
    let known = follows was.0 in
    let front = other_front old.nodes known.0 place at in
    let all : named_rows t ≡ with_other (old.nodes ++ known.0) place at =
    is ∙ ap (λ p. with_other (named_rows s) p at') (sym here) ∙ ap (with_other (named_rows s) place) (sym there) ∙ ap (λ l. with_other l place at) known.1 in
    (front.0, all ∙ front.1 ∙ ap (λ l. l ++ front.0) (sym was.1))

-- another in a place that is known, and in one that is not
pub other_set : (rows : List Indexed) (place at : ℕ) (row : Indexed) → slice_get rows place ≡ Some row
    → slice_set rows place (record { guid = key_of at; at = row.at }) ≡ with_other rows place at
other_set [] place at row is = absurd (let no : None ≡ Some row = is in cc)
other_set (x ∷ xs) zero at row is = let same : x ≡ row = cc in ap (λ (r : Indexed). record { guid = key_of at; at = r.at } ∷ xs) (sym same)
other_set (x ∷ xs) (suc place) at row is = ap (λ l. x ∷ l) (other_set xs place at row is)

pub other_none : (rows : List Indexed) (place at : ℕ) → slice_get rows place ≡ None → rows ≡ with_other rows place at
other_none [] place at is = refl
other_none (x ∷ xs) zero at is = absurd (let no : Some x ≡ None = is in cc)
other_none (x ∷ xs) (suc place) at is = ap (λ l. x ∷ l) (other_none xs place at is)

pub got_inside : (rows : List Indexed) (place : ℕ) (row : Indexed) → slice_get rows place ≡ Some row → place < length rows
got_inside [] place row is = absurd (let no : None ≡ Some row = is in cc)
got_inside (x ∷ xs) zero row is = omega arith
got_inside (x ∷ xs) (suc place) row is = let later = got_inside xs place row is in omega (arith, later)
