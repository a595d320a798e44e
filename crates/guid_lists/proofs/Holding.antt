-- A write to the list of one protocol.
use Rattle.std.proofs.Common.{◌≡◌, ℕ, Bool, true, false, cond, List, [], Option, Some, None, refl, ap, ◌∙◌, Vec, Global, Ok, Err, Result, OnOk, OnErr}
use Rattle.std.proofs.lemmas.Slice.Eq.{bytes_eq-Decides}
use Rattle.indexmap.specs.IndexMap.{get_by}
use Rattle.pi_base.specs.{declared.guid.Guid.Guid, Guids.same_guid}
use Rattle.guid_lists.specs.declared.lists.GuidLists.{GuidLists}
use Rattle.guid_lists.specs.Lists.{list_of, HasInstead, HaveStill}

-- the numbers of a list that may be there
abbrev pub numbers_in : Option (Vec ℕ Global) → List ℕ
numbers_in None = []
numbers_in (Some numbers) = numbers.items

chosen : (b : Bool) (w : Vec ℕ Global) (o : Option (Vec ℕ Global)) (list : List ℕ) → w.items ≡ list → numbers_in (cond b (Some w) o) ≡ cond b list (numbers_in o)
chosen true w o list e = e
chosen false w o list e = refl

-- the map has a list at one GUID, and else what it had
abbrev pub Writes : GuidLists → Guid → Vec ℕ Global → GuidLists → Type 0
Writes old guid w new = (other : Guid) → get_by (same_guid other) new.lists ≡ cond (same_guid guid other) (Some w) (get_by (same_guid other) old.lists)

pub written : (old new : GuidLists) (guid : Guid) (w : Vec ℕ Global) (list : List ℕ) → Writes old guid w new → w.items ≡ list → HasInstead old guid list new
written old new guid w list h e other = ap numbers_in (h other) ∙ chosen (same_guid guid other) w (get_by (same_guid other) old.lists) list e

-- the list that it had is written
kept : (b : Bool) (w : Vec ℕ Global) (o : Option (Vec ℕ Global)) → (b ≡ true → w.items ≡ numbers_in o) → numbers_in (cond b (Some w) o) ≡ numbers_in o
kept true w o e = e refl
kept false w o e = refl

same_guids : (guid other : Guid) → same_guid guid other ≡ true → guid.0 ≡ other.0
same_guids guid other h = (bytes_eq-Decides guid.0 other.0).0 h

pub unchanged : (old new : GuidLists) (guid : Guid) (w : Vec ℕ Global) → Writes old guid w new → w.items ≡ list_of old guid → HaveStill old new
unchanged old new guid w h e other =
    ap numbers_in (h other)
    ∙ kept (same_guid guid other) w (get_by (same_guid other) old.lists) (λ same. e ∙ ap (λ bytes. list_of old (record { 0 = bytes })) (same_guids guid other same))

pub on_ok : {A B : Type 0} (r : Result A B) (P Q : Type 0) → (P → Q) → OnOk r P → OnOk r Q
on_ok (Ok a) P Q f p = f p
on_ok (Err b) P Q f p = p

pub on_err : {A B : Type 0} (r : Result A B) (P Q : Type 0) → (P → Q) → OnErr r P → OnErr r Q
on_err (Ok a) P Q f p = p
on_err (Err b) P Q f p = f p
