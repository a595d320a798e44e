-- A later state has the bodies of the one before it, and its lists are no shorter; a call that installs or registers makes the lists as long as its sweep says.
use Rattle.std.proofs.Common.{◌≡◌, ℕ, suc, ◌+◌, ◌-◌, ◌<◌, Bool, true, false, cond, List, [], ◌∷◌, ◌++◌, length, take, drop, arith, sym, refl, ap, subst, ◌∙◌, ◌==◌, length-append, append-nil, append_assoc, ◌||◌, fold, unwrap_or, option_map, take_at, drop_at}
use Rattle.std.specs.List.{list_any}
use Rattle.store_model.specs.{declared.state.Entry.Entry, declared.state.Body.TheVariants.Node, declared.state.Body.TheVariants.Descriptor}
use Rattle.store_model.specs.{declared.store_handle.DescKind.DescKind, declared.store_handle.Desc.Desc, StateFacts.IsDesc}
use Rattle.store_model.specs.declared.store_handle.DescKind.TheVariants.{Ppi, Callback, Dispatch}
use Rattle.pi_base.specs.Lists.{Each}
use Rattle.store_model.specs.StoreState.{StoreState, pool_of, next_body}
use Rattle.store_model.specs.Service.Descriptor.{offsets, descriptors, kind_at, is_callback, descriptor_in}
use Rattle.store_model.specs.Service.Install.{with_ppi, with_pending, renamed, place_of}
use Rattle.store_model.specs.Service.Notify.{with_note, with_note_of, new_callbacks, note_entry}
use Rattle.boot_laws.specs.Stay.{IsLater}
use Rattle.boot_laws.proofs.Bodies.{Grown, added_grows, added_stays}

pub later_self : (s : StoreState) → IsLater s s
later_self s = record { held = λ x held. held; ppis = omega arith; callbacks = omega arith }

pub later_then : (s t u : StoreState) → IsLater s t → IsLater t u → IsLater s u
later_then s t u a b =
    record { held = λ x held. b.held x (a.held x held); ppis = omega (arith, a.ppis, b.ppis); callbacks = omega (arith, a.callbacks, b.callbacks) }

-- through each of a list
pub fold_later : {A : Type 0} (f : StoreState → A → StoreState) (xs : List A) (s : StoreState) → ((u : StoreState) (a : A) → IsLater u (f u a)) → IsLater s (fold f s xs)
fold_later f [] s each = later_self s
fold_later f (a ∷ xs) s each = later_then s (f s a) (fold f (f s a) xs) (each s a) (fold_later f xs (f s a) each)

pub pending_later : (by : ℕ) (s : StoreState) (pair : ℕ × ℕ) → IsLater s (with_pending by s pair)
pending_later by s pair = record { held = added_stays s (with_pending by s pair) (pool_of Node) refl; ppis = omega arith; callbacks = omega arith }

pub ppi_later : (by : ℕ) (s : StoreState) (d : Desc) → IsLater s (with_ppi by s d)
ppi_later by s d =
    let entry : Entry = record { node = next_body s; descriptor = d.offset; by = by } in
    let len : length (s.ppis ++ entry ∷ []) ≡ length s.ppis + 1 = length-append s.ppis (entry ∷ []) in
    record { held = added_stays s (with_ppi by s d) (pool_of Node) refl; ppis = omega (arith, len); callbacks = omega arith }

-- queued pairs leave the PPIs as they are
pub pendings_ppis : (by : ℕ) (pairs : List (ℕ × ℕ)) (s : StoreState) → (fold (with_pending by) s pairs).ppis ≡ s.ppis
pendings_ppis by [] s = refl
pendings_ppis by (pair ∷ pairs) s = pendings_ppis by pairs (with_pending by s pair)

-- the PPIs that an install adds
pub ppis_added : (by : ℕ) (list : List Desc) (s : StoreState) → (added : List Entry) × ((fold (with_ppi by) s list).ppis ≡ s.ppis ++ added) × (descriptors added ≡ offsets list) × (length added ≡ length list)
ppis_added by [] s = ([], sym (append-nil s.ppis), refl, refl)
ppis_added by (d ∷ list) s =
    let entry : Entry = record { node = next_body s; descriptor = d.offset; by = by } in
    let rest = ppis_added by list (with_ppi by s d) in
    (entry ∷ rest.0, rest.1 ∙ append_assoc s.ppis (entry ∷ []) rest.0, ap (λ more. d.offset ∷ more) rest.2, omega (arith, rest.3))

-- what stands behind so many, as many as there are
pub behind : (before added : List Entry) (n : ℕ) → length added ≡ n → take (length before + n - length before) (drop (length before) (before ++ added)) ≡ added
behind before added n len =
    let count : length before + n - length before ≡ n = omega arith in
    rw count (ap (take n) (drop_at before added (length before) refl) ∙ (ap (λ xs. take n xs) (sym (append-nil added)) ∙ take_at added [] n len))

-- an entry that is named anew stands where it stood
len_on : (b : Bool) (entry : Entry) (entries : List Entry) (old new : ℕ) → length (renamed entries old new) ≡ length entries
    → length (cond b (record entry { descriptor = new } ∷ entries) (entry ∷ renamed entries old new)) ≡ length (entry ∷ entries)
len_on true entry entries old new rest = refl
len_on false entry entries old new rest = omega (arith, rest)

pub renamed_len : (entries : List Entry) (old new : ℕ) → length (renamed entries old new) ≡ length entries
renamed_len [] old new = refl
renamed_len (entry ∷ entries) old new = len_on (entry.descriptor == old) entry entries old new (renamed_len entries old new)

abbrev IsAmong : List Entry → ℕ → Type 0
IsAmong entries old = list_any (λ place. place == old) (descriptors entries) ≡ true

-- the place of a PPI that is there, and the one that is named anew there
abbrev StandsAt : List Entry → List Entry → ℕ → ℕ → Type 0
StandsAt entries now place new = (place < length entries) × (descriptors (take 1 (drop place now)) ≡ new ∷ [])

at_on : (b : Bool) (entry : Entry) (entries : List Entry) (old new : ℕ) → (b || list_any (λ place. place == old) (descriptors entries)) ≡ true
    → (IsAmong entries old → StandsAt entries (renamed entries old new) (place_of entries old) new)
    → StandsAt (entry ∷ entries) (cond b (record entry { descriptor = new } ∷ entries) (entry ∷ renamed entries old new)) (cond b 0 (1 + place_of entries old)) new
at_on true entry entries old new h rest = (omega arith, refl)
at_on false entry entries old new h rest =
    let r = rest h in
    let next : 1 + place_of entries old ≡ suc (place_of entries old) = omega arith in
    (omega (arith, r.0), ap (λ place. descriptors (take 1 (drop place (entry ∷ renamed entries old new)))) next ∙ r.1)

pub renamed_at : (entries : List Entry) (old new : ℕ) → list_any (λ place. place == old) (descriptors entries) ≡ true
    → (place_of entries old < length entries) × (descriptors (take 1 (drop (place_of entries old) (renamed entries old new))) ≡ new ∷ [])
renamed_at [] old new h = cc
renamed_at (entry ∷ entries) old new h = at_on (entry.descriptor == old) entry entries old new h (renamed_at entries old new)

-- a notification's kind is the same later
kind_stays : (s u : StoreState) (d : Desc) → Grown s u → IsDesc s d → kind_at u d.offset ≡ kind_at s d.offset
kind_stays s u d grown is =
    ap (λ body. unwrap_or (option_map (λ found. found.kind) (descriptor_in body)) Dispatch) (grown d.offset (Descriptor is.0) is.1 ∙ sym is.1)

note_grows : (kind : DescKind) (by : ℕ) (u : StoreState) (d : Desc) → Grown u (with_note_of kind by u d)
note_grows Ppi by u d = λ place body h. h
note_grows Callback by u d = added_grows u (with_note_of Callback by u d) (pool_of Node) refl
note_grows Dispatch by u d = added_grows u (with_note_of Dispatch by u d) (pool_of Node) refl

note_later : (kind : DescKind) (by : ℕ) (u : StoreState) (d : Desc) → IsLater u (with_note_of kind by u d)
note_later Ppi by u d = later_self u
note_later Callback by u d =
    let len : length (u.callbacks ++ note_entry u d by ∷ []) ≡ length u.callbacks + 1 = length-append u.callbacks (note_entry u d by ∷ []) in
    record { held = added_stays u (with_note_of Callback by u d) (pool_of Node) refl; ppis = omega arith; callbacks = omega (arith, len) }
note_later Dispatch by u d = record { held = added_stays u (with_note_of Dispatch by u d) (pool_of Node) refl; ppis = omega arith; callbacks = omega arith }

pub notes_later : (by : ℕ) (list : List Desc) (s : StoreState) → IsLater s (fold (with_note by) s list)
notes_later by list s = fold_later (with_note by) list s (λ u d. note_later (kind_at u d.offset) by u d)

-- the callbacks that a registration adds
one_note : (kind : DescKind) (by : ℕ) (u : StoreState) (d : Desc) (rest : List ℕ)
    → length (with_note_of kind by u d).callbacks + length rest ≡ length u.callbacks + length (cond (is_callback kind) (d.offset ∷ rest) rest)
one_note Ppi by u d rest = refl
one_note Callback by u d rest =
    let len : length (u.callbacks ++ note_entry u d by ∷ []) ≡ length u.callbacks + 1 = length-append u.callbacks (note_entry u d by ∷ []) in omega (arith, len)
one_note Dispatch by u d rest = refl

pub callbacks_added : (by : ℕ) (list : List Desc) (s u : StoreState) → Grown s u → Each (IsDesc s) list
    → length (fold (with_note by) u list).callbacks ≡ length u.callbacks + length (new_callbacks s list)
callbacks_added by [] s u grown each = omega arith
callbacks_added by (d ∷ list) s u grown each =
    let rest : List ℕ = new_callbacks s list in
    let all : ℕ = length u.callbacks + length (new_callbacks s (d ∷ list)) in
    let one : length (with_note by u d).callbacks + length rest ≡ all =
    subst (λ kind. length (with_note_of kind by u d).callbacks + length rest ≡ all) (sym (kind_stays s u d grown each.0)) (one_note (kind_at s d.offset) by u d rest) in
    callbacks_added by list s (with_note by u d) (λ place body h. note_grows (kind_at u d.offset) by u d place body (grown place body h)) each.1 ∙ one
