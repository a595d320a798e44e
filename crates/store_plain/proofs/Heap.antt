-- A byte of two lists, and the lengths of what stands in the heap.
use Rattle.std.proofs.Common.{◌≡◌, ℕ, zero, suc, ◌+◌, ◌<◌, ◌^◌, List, [], ◌∷◌, ◌++◌, length, take, drop, get_or, arith, ap, refl, sym, ◌∙◌, Some, None, append_assoc, map, sum_by, slice_set}
use Rattle.std.proofs.{lemmas.List.map-append, lemmas.List.Sums.sum_by-cons}
use Rattle.store_plain.specs.Words.{words_bytes, descriptor_words}
use Rattle.store_model.specs.{declared.store_handle.DescKind.DescKind, declared.state.Entry.Entry, declared.state.Pending.Pending}
use Rattle.store_model.specs.{declared.state.DescriptorBody.DescriptorBody, declared.state.Body.Body, declared.state.HobEntry.HobEntry}
use Rattle.pi_base.specs.Lists.{Each, numbers}
use Rattle.store_model.specs.StoreState.{StoreState, body_at, handoff_len, hob_len}
use Rattle.store_model.specs.StateFacts.{IsEntry, IsPending, IsStoreState}
use Rattle.store_model.specs.HeapImage.{header_bytes, body_bytes, hobs_bytes, guid_behind, descriptor_bytes}
use Rattle.store_laws.specs.Fitting.{IsSpelled}
use Rattle.store_laws.proofs.{Fits.all_fit, Bodies.body_before}
use Rattle.store_plain.specs.Peeking.{byte_of, IsNear, IsPendingNear}
use Rattle.pi_base.proofs.ListFacts.{each_more}

pub byte_left : (xs ys : List ℕ) (i : ℕ) → i < length xs → byte_of (xs ++ ys) i ≡ byte_of xs i
byte_left [] ys i le = absurd (omega (arith, le))
byte_left (x ∷ xs) ys zero le = refl
byte_left (x ∷ xs) ys (suc i) le = byte_left xs ys i (omega (arith, le))

pub byte_right : (xs ys : List ℕ) (i j : ℕ) → i ≡ length xs + j → byte_of (xs ++ ys) i ≡ byte_of ys j
byte_right [] ys i j e = let same : i ≡ j = omega (arith, e) in ap (byte_of ys) same
byte_right (x ∷ xs) ys zero j e = absurd (omega (arith, e))
byte_right (x ∷ xs) ys (suc i) j e = byte_right xs ys i j (omega (arith, e))

pub hob_spelled : (s : StoreState) (place : ℕ) (hob : HobEntry) → IsSpelled s hob → length (header_bytes hob.kind (hob_len hob) ++ body_bytes s place hob.body) ≡ hob_len hob
hob_spelled s place hob h = let e = h place in omega (arith, e)

-- what an entry names stands in the heap, whose addresses fit
near : (s : StoreState) (place : ℕ) (body : Body) → IsStoreState s → body_at s place ≡ Some body → s.base + place < 2 ^ 64
near s place body facts h =
    let before = body_before s.hobs handoff_len place body h in
    let room = facts.room in
    let end = (all_fit.heap s facts).end in
    omega (arith, before, room, end)

pub entries_near : (s : StoreState) (kind : DescKind) (entries : List Entry) → IsStoreState s → Each (IsEntry s kind) entries → Each (IsNear s.base) entries
entries_near s kind entries facts h = each_more (IsEntry s kind) (IsNear s.base) entries (λ entry is. (near s entry.node _ facts is.0, near s entry.descriptor _ facts is.1.1)) h

pub pendings_near : (s : StoreState) (pendings : List Pending) → IsStoreState s → Each (IsPending s) pendings → Each (IsPendingNear s.base) pendings
pendings_near s pendings facts h =
    each_more (IsPending s) (IsPendingNear s.base) pendings (λ pending is. (near s pending.node _ facts is.0, near s pending.descriptor _ facts is.1.1, near s pending.ppi _ facts is.2.1)) h

pub numbers_more : (from count : ℕ) → numbers from (count + 1) ≡ numbers from count ++ (from + count) ∷ []
numbers_more from zero = ap (λ n. n ∷ []) (let e : from ≡ from + 0 = omega arith in e)
numbers_more from (suc count) =
    let next : suc count + 1 ≡ suc (count + 1) = omega arith in
    let last : from + 1 + count ≡ from + suc count = omega arith in
    rw next (ap (λ xs. from ∷ xs) (numbers_more (from + 1) count ∙ ap (λ n. numbers (from + 1) count ++ n ∷ []) last))

pub long_is : (base place : ℕ) (d : DescriptorBody) → d.stands ≡ None → words_bytes (descriptor_words base place d) ++ d.guid.0 ≡ descriptor_bytes base place d
long_is base place d e = ap (λ stands. words_bytes (descriptor_words base place d) ++ guid_behind d stands) (sym e)

pub short_is : (base place address : ℕ) (d : DescriptorBody) → d.stands ≡ Some address → words_bytes (descriptor_words base place d) ≡ descriptor_bytes base place d
short_is base place address d e = ap (λ stands. words_bytes (descriptor_words base place d) ++ guid_behind d stands) (sym e)

pub drop_is : {A : Type 0} (xs : List A) (i : ℕ) (x : A) → i < length xs → x ≡ get_or xs i x → drop i xs ≡ x ∷ drop (i + 1) xs
drop_is [] i x le e = absurd (omega (arith, le))
drop_is (y ∷ ys) zero x le e = ap (λ z. z ∷ ys) (sym e)
drop_is (y ∷ ys) (suc i) x le e = let next : suc i + 1 ≡ suc (i + 1) = omega arith in rw next (drop_is ys i x (omega (arith, le)) e)

pub sum_is : (hobs : List HobEntry) (i : ℕ) (hob : HobEntry) → i < length hobs → hob ≡ get_or hobs i hob → sum_by hob_len (drop i hobs) ≡ hob_len hob + sum_by hob_len (drop (i + 1) hobs)
sum_is hobs i hob le e = ap (sum_by hob_len) (drop_is hobs i hob le e) ∙ sum_by-cons hob_len hob (drop (i + 1) hobs)

-- a byte of the HOB with a number, and one behind it
pub byte_here : (s : StoreState) (hobs : List HobEntry) (at i n : ℕ) (hob : HobEntry) (tail : List ℕ) → i < length hobs → hob ≡ get_or hobs i hob → IsSpelled s hob → n < hob_len hob
    → byte_of (hobs_bytes s at (drop i hobs) ++ tail) n ≡ byte_of (header_bytes hob.kind (hob_len hob) ++ body_bytes s (at + 8) hob.body) n
byte_here s hobs at i n hob tail le e size below =
    let this = header_bytes hob.kind (hob_len hob) ++ body_bytes s (at + 8) hob.body in
    let later = hobs_bytes s (at + hob_len hob) (drop (i + 1) hobs) in
    let len : length this ≡ hob_len hob = hob_spelled s (at + 8) hob size in
    ap (λ xs. byte_of (hobs_bytes s at xs ++ tail) n) (drop_is hobs i hob le e) ∙ ap (λ xs. byte_of xs n) (append_assoc this later tail) ∙ byte_left this (later ++ tail) n (omega (arith, len, below))

pub byte_later : (s : StoreState) (hobs : List HobEntry) (at i n m : ℕ) (hob : HobEntry) (tail : List ℕ) → i < length hobs → hob ≡ get_or hobs i hob → IsSpelled s hob → n ≡ hob_len hob + m
    → byte_of (hobs_bytes s at (drop i hobs) ++ tail) n ≡ byte_of (hobs_bytes s (at + hob_len hob) (drop (i + 1) hobs) ++ tail) m
byte_later s hobs at i n m hob tail le e size there =
    let this = header_bytes hob.kind (hob_len hob) ++ body_bytes s (at + 8) hob.body in
    let later = hobs_bytes s (at + hob_len hob) (drop (i + 1) hobs) in
    let len : length this ≡ hob_len hob = hob_spelled s (at + 8) hob size in
    ap (λ xs. byte_of (hobs_bytes s at xs ++ tail) n) (drop_is hobs i hob le e) ∙ ap (λ xs. byte_of xs n) (append_assoc this later tail) ∙ byte_right this (later ++ tail) n m (omega (arith, len, there))

take_set : (xs : List ℕ) (i x : ℕ) → i < length xs → take (i + 1) (slice_set xs i x) ≡ take i xs ++ x ∷ []
take_set [] i x le = absurd (omega (arith, le))
take_set (y ∷ ys) zero x le = refl
take_set (y ∷ ys) (suc i) x le = let next : suc i + 1 ≡ suc (i + 1) = omega arith in rw next (ap (λ xs. y ∷ xs) (take_set ys i x (omega (arith, le))))

pub read_more : (f : ℕ → ℕ) (old : List ℕ) (at i x : ℕ) → i < length old → take i old ≡ map f (numbers at i) → x ≡ f (at + i) → take (i + 1) (slice_set old i x) ≡ map f (numbers at (i + 1))
read_more f old at i x le before e =
    take_set old i x le ∙ ap (λ xs. xs ++ x ∷ []) before ∙ ap (λ y. map f (numbers at i) ++ y ∷ []) e
    ∙ sym (map-append f (numbers at i) ((at + i) ∷ [])) ∙ ap (map f) (sym (numbers_more at i))
