-- A map that is ordered by the numbers of its GUIDs is asked by the GUIDs.
use Rattle.std.proofs.Common.{◌≡◌, ℕ, ◌<◌, ◌≤◌, ◌^◌, Bool, true, false, List, [], ◌∷◌, length, cond, Option, Some, None, refl, sym, ap, ◌∙◌, arith, append-nil, take_all, is_eq, nat_cmp}
use Rattle.std.proofs.{lemmas.Slice.Eq.bytes_eq-Decides, lemmas.Cmp.nat_list_eq_equiv, lemmas.Cmp.ranked}
use Rattle.std.specs.{BTreeMap.insert_entry, Map.lookup, Ordering.match_ordering, declared.cmp.Ordering.Ordering}
use Rattle.std.specs.declared.cmp.Ordering.TheVariants.{Less, Equal, Greater}
use Rattle.pi_base.specs.{declared.guid.Guid.Guid, Guids.same_guid, Lists.Each}
use Rattle.pi_base.specs.Field.{AreBytes, SpellsWhatItReads, little_bytes, little_number}
use Rattle.pi_base.proofs.FieldLaws.{little_number-little_bytes}
use Rattle.pi_base.specs.GuidMap.{value_of, spelled, entries_of, IsNumbered}

-- the number that is read from a GUID spells it
pub spells : (guid : Guid) (n : ℕ) → SpellsWhatItReads → AreBytes guid.0 → length guid.0 ≡ 16 → n ≡ little_number 16 guid.0 → spelled n ≡ guid
spells guid n law are long e =
    let of : List ℕ → Guid = λ bytes. record { 0 = bytes } in
    let enough : 16 ≤ length guid.0 = omega (arith, long) in
    let all : length guid.0 ≤ 16 = omega (arith, long) in
    ap spelled e ∙ ap of (law 16 guid.0 are enough ∙ take_all 16 guid.0 all)

same_bytes : (a b : Guid) → same_guid a b ≡ true → a.0 ≡ b.0
same_bytes a b h = (bytes_eq-Decides a.0 b.0).0 h

same_by_bytes : (a b : Guid) → a.0 ≡ b.0 → same_guid a b ≡ true
same_by_bytes a b e = (bytes_eq-Decides a.0 b.0).1 e

turned : (a b : Guid) → same_guid a b ≡ same_guid b a
turned a b = nat_list_eq_equiv.symm a.0 b.0

-- what a number spells reads as that number
reads : (n : ℕ) → n < 256 ^ 16 → little_number 16 (little_bytes 16 n) ≡ n
reads n fits = ap (little_number 16) (sym (append-nil (little_bytes 16 n))) ∙ little_number-little_bytes 16 n [] fits

-- numbers that spell the same bytes are one
one_number : (n m : ℕ) → n < 256 ^ 16 → m < 256 ^ 16 → little_bytes 16 n ≡ little_bytes 16 m → n ≡ m
one_number n m fits_n fits_m e = sym (reads n fits_n) ∙ ap (little_number 16) e ∙ reads m fits_m

-- what a comparison of numbers says
level : (n m : ℕ) (o : Ordering) → o ≡ nat_cmp n m → is_eq o ≡ true → n ≡ m
level n m Less e h = absurd cc
level n m Equal e h = ranked n m Equal e
level n m Greater e h = absurd cc

apart : (n m : ℕ) (o : Ordering) → o ≡ nat_cmp n m → is_eq o ≡ false → n ≡ m → ⊥
apart n m Less e h same = let less : n < m = ranked n m Less e in omega (arith, less, same)
apart n m Equal e h same = cc
apart n m Greater e h same = let more : m < n = ranked n m Greater e in omega (arith, more, same)

-- two numbers are level where the GUIDs that they spell are the same
same_key : (n m : ℕ) → n < 256 ^ 16 → m < 256 ^ 16 → is_eq (nat_cmp n m) ≡ same_guid (spelled n) (spelled m)
same_key n m fits_n fits_m = by (is_eq (nat_cmp n m)) (same_guid (spelled n) (spelled m)) refl refl
  where
    by : (s t : Bool) → is_eq (nat_cmp n m) ≡ s → same_guid (spelled n) (spelled m) ≡ t → s ≡ t
    by true true p q = refl
    by false false p q = refl
    by true false p q = sym (same_by_bytes (spelled n) (spelled m) (ap (little_bytes 16) (level n m (nat_cmp n m) refl p))) ∙ q
    by false true p q = absurd (apart n m (nat_cmp n m) refl p (one_number n m fits_n fits_m (same_bytes (spelled n) (spelled m) q)))

-- a look-up by the number finds the value of the GUID
found_or : {V : Type 0} (s t : Bool) (value : V) (later rest : Option V) → s ≡ t → later ≡ rest → cond s (Some value) later ≡ cond t (Some value) rest
found_or s t value later rest e is = ap (λ b. cond b (Some value) later) e ∙ ap (cond t (Some value)) is

pub found : {V : Type 0} (entries : List (ℕ × V)) (n : ℕ) → n < 256 ^ 16 → Each IsNumbered entries
    → lookup (λ k. is_eq (nat_cmp n k)) entries ≡ value_of (entries_of entries) (spelled n)
found [] n fits all = refl
found (entry ∷ rest) n fits all =
    found_or (is_eq (nat_cmp n entry.0)) (same_guid (spelled n) (spelled entry.0)) entry.1 (lookup (λ k. is_eq (nat_cmp n k)) rest) (value_of (entries_of rest) (spelled n))
    (same_key n entry.0 fits all.0) (found rest n fits all.1)

-- an entry more, or another value in its place
level_case : {V : Type 0} (s : Bool) (x y w : Option V) → cond s x w ≡ cond s x (cond s y w)
level_case true x y w = refl
level_case false x y w = refl

behind_case : {V : Type 0} (s t : Bool) (x y n w : Option V) → (s ≡ true → t ≡ true → ⊥) → n ≡ cond t x w → cond s y n ≡ cond t x (cond s y w)
behind_case true true x y n w never e = absurd (never refl refl)
behind_case true false x y n w never e = refl
behind_case false t x y n w never e = e

pub put : {V : Type 0} (entries : List (ℕ × V)) (n : ℕ) (value : V) (other : Guid) → n < 256 ^ 16 → Each IsNumbered entries
    → value_of (entries_of (insert_entry nat_cmp entries n value)) other ≡ cond (same_guid (spelled n) other) (Some value) (value_of (entries_of entries) other)
put [] n value other fits all = ap (λ t. cond t (Some value) None) (turned other (spelled n))
put (entry ∷ rest) n value other fits all = by (nat_cmp n entry.0) refl (put rest n value other fits all.1)
  where
    by : (o : Ordering) → o ≡ nat_cmp n entry.0 → value_of (entries_of (insert_entry nat_cmp rest n value)) other ≡ cond (same_guid (spelled n) other) (Some value) (value_of (entries_of rest) other)
        → value_of (entries_of (match_ordering o ((n, value) ∷ entry ∷ rest) ((entry.0, value) ∷ rest) (entry ∷ insert_entry nat_cmp rest n value))) other
        ≡ cond (same_guid (spelled n) other) (Some value) (cond (same_guid other (spelled entry.0)) (Some entry.1) (value_of (entries_of rest) other))
    by Less e before = ap (λ t. cond t (Some value) (cond (same_guid other (spelled entry.0)) (Some entry.1) (value_of (entries_of rest) other))) (turned other (spelled n))
    by Equal e before =
        let same : same_guid other (spelled entry.0) ≡ same_guid (spelled n) other =
        ap (λ k. same_guid other (spelled k)) (sym (ranked n entry.0 Equal e)) ∙ turned other (spelled n) in
        level_case (same_guid other (spelled entry.0)) (Some value) (Some entry.1) (value_of (entries_of rest) other)
        ∙ ap (λ t. cond t (Some value) (cond (same_guid other (spelled entry.0)) (Some entry.1) (value_of (entries_of rest) other))) same
    by Greater e before =
        let more : entry.0 < n = ranked n entry.0 Greater e in
        behind_case (same_guid other (spelled entry.0)) (same_guid (spelled n) other) (Some value) (Some entry.1) (value_of (entries_of (insert_entry nat_cmp rest n value)) other)
        (value_of (entries_of rest) other)
        (λ p q.
        let one : n ≡ entry.0 = one_number n entry.0 fits all.0 (same_bytes (spelled n) other q ∙ same_bytes other (spelled entry.0) p) in
        omega (arith, more, one)) before

-- each number is one that sixteen bytes spell still
pub stands : {V : Type 0} (entries : List (ℕ × V)) (n : ℕ) (value : V) → n < 256 ^ 16 → Each IsNumbered entries → Each IsNumbered (insert_entry nat_cmp entries n value)
stands [] n value fits all = (fits, tt)
stands (entry ∷ rest) n value fits all = by (nat_cmp n entry.0) (stands rest n value fits all.1)
  where
    by : (o : Ordering) → Each IsNumbered (insert_entry nat_cmp rest n value)
        → Each IsNumbered (match_ordering o ((n, value) ∷ entry ∷ rest) ((entry.0, value) ∷ rest) (entry ∷ insert_entry nat_cmp rest n value))
    by Less later = (fits, all)
    by Equal later = (all.0, all.1)
    by Greater later = (all.0, later)
