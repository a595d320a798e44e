-- The entries of a list that are told one behind the other, by their places.
use Rattle.std.proofs.Common.{◌≡◌, ℕ, zero, suc, ◌+◌, ◌<◌, ◌≤◌, List, [], ◌∷◌, length, drop, Option, Some, None, ap, arith, sym, ◌∙◌, slice_get, map}
use Rattle.std.proofs.lemmas.Option.{slice_get_within}
use Rattle.store_model.specs.{declared.store_handle.EntryList.EntryList, declared.store_handle.EntryTold.EntryTold, StoreState.StoreState}
use Rattle.store_model.specs.{StateFacts.IsStoreState, StoreCall.IsNodeIn, Service.Reading.entry_behind, Service.Reading.told_of}
use Rattle.store_laws.specs.Behind.{EntriesAreTold, left_behind}
use Rattle.boot_trace.specs.EntryLines.{entry_lines, told_line}

-- behind a node are the entries from a place on
pub record IsAt (s : StoreState) (list : EntryList) (node : Option ℕ) (from : ℕ) : Type 0 where
  pub is_in : IsNodeIn list node s
  pub left : left_behind s list node ≡ drop from (told_of s list)
  pub few : from ≤ length (told_of s list)

first_of_left : {A : Type 0} (xs : List A) (place : ℕ) (x : A) (rest : List A) → drop place xs ≡ x ∷ rest → (slice_get xs place ≡ Some x) × (drop (place + 1) xs ≡ rest)
first_of_left [] zero x rest e = (cc, cc)
first_of_left [] (suc place) x rest e = (cc, cc)
first_of_left (y ∷ ys) zero x rest e = (cc, cc)
first_of_left (y ∷ ys) (suc place) x rest e =
    let later = first_of_left ys place x rest e in
    let one : suc place + 1 ≡ suc (place + 1) = omega arith in
    (later.0, ap (λ n. drop n (y ∷ ys)) one ∙ later.1)

map_get : {A B : Type 0} (f : A → B) (xs : List A) (place : ℕ) (x : A) → slice_get xs place ≡ Some x → slice_get (map f xs) place ≡ Some (f x)
map_get f [] place x e = cc
map_get f (y ∷ ys) zero x e = let same : y ≡ x = cc in ap (λ z. Some (f z)) same
map_get f (y ∷ ys) (suc place) x e = map_get f ys place x e

-- an entry that is told, and what is left behind it
pub record IsToldAt (s : StoreState) (list : EntryList) (place : ℕ) (told : EntryTold) : Type 0 where
  pub line : Some (told_line list told) ≡ slice_get (entry_lines s list) place
  pub within : place < length (told_of s list)
  pub next : IsAt s list (Some told.node) (place + 1)

-- none is told behind the last
places_past : {A : Type 0} (xs : List A) (place : ℕ) → place ≤ length xs → drop place xs ≡ [] → place ≡ length xs
places_past [] place le e = omega (arith, le)
places_past (y ∷ ys) zero le e = cc
places_past (y ∷ ys) (suc place) le e = let same : place ≡ length ys = places_past ys place (omega (arith, le)) e in omega (arith, same)

pub none_behind : EntriesAreTold → (s : StoreState) (list : EntryList) (node : Option ℕ) (place : ℕ) → IsAt s list node place
    → None ≡ entry_behind s list node → place ≡ length (told_of s list)
none_behind law s list node place at e = places_past (told_of s list) place at.few (sym at.left ∙ law.last s list node (sym e))

pub told_at : EntriesAreTold → (s : StoreState) (list : EntryList) (node : Option ℕ) (place : ℕ) (told : EntryTold) → IsStoreState s → IsAt s list node place
    → Some told ≡ entry_behind s list node → IsToldAt s list place told
told_at law s list node place told facts at e =
    let first = law.first s list node told facts (sym e) in
    let parts = first_of_left (told_of s list) place told (left_behind s list (Some told.node)) (sym at.left ∙ first.left) in
    record {
      line = sym (map_get (told_line list) (told_of s list) place told parts.0);
      within = slice_get_within (told_of s list) place told parts.0;
      next = record { is_in = first.is_in; left = sym parts.1; few = let le = slice_get_within (told_of s list) place told parts.0 in omega (arith, le) };
    }
