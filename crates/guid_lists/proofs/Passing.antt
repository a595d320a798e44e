-- A number goes from one GUID to another.
use Rattle.std.proofs.Common.{◌≡◌, ℕ, Bool, true, false, cond, List, refl, sym, ap, ◌∙◌}
use Rattle.std.proofs.lemmas.Slice.Eq.{bytes_eq-Decides}
use Rattle.pi_base.specs.{declared.guid.Guid.Guid, Guids.same_guid}
use Rattle.guid_lists.specs.declared.lists.GuidLists.{GuidLists}
use Rattle.guid_lists.specs.Lists.{HasInstead, Passes, list_of, with_number, without_number}

pub same_is : (a b : Guid) → same_guid a b ≡ true → a ≡ b
same_is a b same = ap (λ bytes. record { 0 = bytes }) ((bytes_eq-Decides a.0 b.0).0 same)

pub same_self : (a : Guid) → same_guid a a ≡ true
same_self a = (bytes_eq-Decides a.0 a.0).1 refl

pub same_turned : (a b : Guid) (t : Bool) → same_guid a b ≡ false → same_guid b a ≡ t → t ≡ false
same_turned a b true apart e = let is = same_is b a e in absurd (let bad : true ≡ false = sym (same_self a) ∙ ap (same_guid a) (sym is) ∙ apart in cc)
same_turned a b false apart e = refl

-- the GUID that it leaves has its numbers still
pub left : (old mid : GuidLists) (from to : Guid) (list : List ℕ) → same_guid from to ≡ false → HasInstead old to list mid → list_of mid from ≡ list_of old from
left old mid from to list apart has = has from ∙ ap (λ b. cond b list (list_of old from)) (same_turned from to (same_guid to from) apart refl)

by_to : (old : GuidLists) (number : ℕ) (to guid : Guid) (b : Bool) → same_guid to guid ≡ b
    → cond b (with_number number (list_of old to)) (list_of old guid) ≡ cond b (with_number number (list_of old guid)) (list_of old guid)
by_to old number to guid true e = ap (λ g. with_number number (list_of old g)) (same_is to guid e)
by_to old number to guid false e = refl

by_from : (old mid : GuidLists) (number : ℕ) (from to guid : Guid) (b : Bool) → same_guid from guid ≡ b → same_guid from to ≡ false
    → HasInstead old to (with_number number (list_of old to)) mid
    → cond b (without_number number (list_of mid from)) (list_of mid guid)
    ≡ cond b (without_number number (list_of old guid)) (cond (same_guid to guid) (with_number number (list_of old guid)) (list_of old guid))
by_from old mid number from to guid true e apart has =
    ap (without_number number) (left old mid from to (with_number number (list_of old to)) apart has) ∙ ap (λ g. without_number number (list_of old g)) (same_is from guid e)
by_from old mid number from to guid false e apart has = has guid ∙ by_to old number to guid (same_guid to guid) refl

pub goes : (old mid new : GuidLists) (number : ℕ) (from to : Guid) → same_guid from to ≡ false → HasInstead old to (with_number number (list_of old to)) mid
    → HasInstead mid from (without_number number (list_of mid from)) new → Passes old number from to new
goes old mid new number from to apart has taken = λ guid.
    let list = list_of old guid in
    taken guid
    ∙ by_from old mid number from to guid (same_guid from guid) refl apart has
    ∙ sym (ap (λ b. cond b list (cond (same_guid from guid) (without_number number list) (cond (same_guid to guid) (with_number number list) list))) apart)
