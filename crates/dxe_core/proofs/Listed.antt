-- A write to the numbers of one name.
use Rattle.std.proofs.Common.{◌≡◌, ℕ, Bool, true, false, cond, List, [], ◌∷◌, ◌++◌, Option, Some, None, refl, sym, ap, ◌∙◌, Vec, Global, Ok, Err, map, append-nil, Result, OnOk, unwrap_or}
use Rattle.std.specs.Map.{lookup}
use Rattle.std.proofs.lemmas.Slice.Eq.{bytes_eq-Decides}
use Rattle.pi_base.specs.{GuidMap.value_of, declared.guid.Guid.Guid, Guids.same_guid}
use Rattle.pi_base.proofs.Ordered.{is_level, lookup-is_level, is_put}
use Rattle.dxe_core.specs.{declared.lists.NumberLists.NumberLists, Lists.numbers_under, Lists.IsPushed}

-- the numbers of a list that may be there
abbrev pub numbers_in : Option (Vec ℕ Global) → List ℕ
numbers_in None = []
numbers_in (Some numbers) = numbers.items

looked_up : (b : Bool) (w : Vec ℕ Global) (later : Option (Vec ℕ Global)) (rest : Option (List ℕ)) → unwrap_or rest [] ≡ numbers_in later
    → unwrap_or (cond b (Some w.items) rest) [] ≡ numbers_in (cond b (Some w) later)
looked_up true w later rest h = refl
looked_up false w later rest h = h

-- a look-up among the lists
found_in : (test : Guid → Bool) (entries : List (Guid × Vec ℕ Global)) → unwrap_or (lookup test (map (λ entry. (entry.0, entry.1.items)) entries)) [] ≡ numbers_in (lookup test entries)
found_in test [] = refl
found_in test (entry ∷ rest) = looked_up (test entry.0) entry.1 (lookup test rest) (lookup test (map (λ e. (e.0, e.1.items)) rest)) (found_in test rest)

pub numbers_are : (lists : NumberLists) (name : Guid) → numbers_under lists name ≡ numbers_in (value_of lists.lists.entries name)
numbers_are lists name = found_in (same_guid name) lists.lists.entries

-- what a look-up finds
pub found : (lists : NumberLists) (name : Guid) (o : Option (Vec ℕ Global)) → o ≡ lookup (is_level name) lists.lists.entries → numbers_in o ≡ numbers_under lists name
found lists name o e = ap numbers_in (e ∙ lookup-is_level lists.lists.entries name) ∙ sym (numbers_are lists name)

-- the map has a list at one GUID, and else what it had
abbrev pub Writes : NumberLists → Guid → Vec ℕ Global → NumberLists → Type 0
Writes old name w new = (other : Guid) → lookup (is_level other) new.lists.entries ≡ cond (is_level name other) (Some w) (lookup (is_level other) old.lists.entries)

-- a number behind those of one name
one_more : (b : Bool) (w : Vec ℕ Global) (had : Option (Vec ℕ Global)) (number : ℕ) → (b ≡ true → w.items ≡ numbers_in had ++ number ∷ [])
    → numbers_in (cond b (Some w) had) ≡ numbers_in had ++ cond b (number ∷ []) []
one_more true w had number e = e refl
one_more false w had number e = sym (append-nil (numbers_in had))

same_guids : (a b : Guid) → same_guid a b ≡ true → a.0 ≡ b.0
same_guids a b h = (bytes_eq-Decides a.0 b.0).0 h

pub pushed : (old new : NumberLists) (name : Guid) (w : Vec ℕ Global) (number : ℕ) → Writes old name w new → w.items ≡ numbers_under old name ++ number ∷ [] → IsPushed old (Some name) number new
pushed old new name w number h e other =
    let had = value_of old.lists.entries other in
    let same : same_guid name other ≡ true → w.items ≡ numbers_in had ++ number ∷ [] =
    λ is. e ∙ ap (λ bytes. numbers_under old (record { 0 = bytes }) ++ number ∷ []) (same_guids name other is) ∙ ap (λ xs. xs ++ number ∷ []) (numbers_are old other) in
    numbers_are new other ∙ ap numbers_in (is_put old.lists.entries new.lists.entries name w h other) ∙ one_more (same_guid name other) w had number same ∙ sym (ap (λ xs. xs ++ cond (same_guid name other) (number ∷ []) []) (numbers_are old other))

pub on_ok : {A B : Type 0} (r : Result A B) (P Q : Type 0) → (P → Q) → OnOk r P → OnOk r Q
on_ok (Ok a) P Q f p = f p
on_ok (Err b) P Q f p = p
