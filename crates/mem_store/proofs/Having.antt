-- The entries that have a GUID, by their places.
use Rattle.std.proofs.Common.{◌≡◌, ℕ, zero, suc, ◌+◌, ◌≤◌, ◌<◌, Bool, true, false, cond, ◌||◌, List, [], ◌∷◌, ◌++◌, length, arith, ap, refl, sym, ◌∙◌, subst, Some, length-append, slice_get, slice_set, nat_lt, option_and_then}
use Rattle.std.specs.List.{list_any}
use Rattle.std.proofs.lemmas.Bool.Decides.{nat_tests}
use Rattle.pi_base.specs.{declared.guid.Guid.Guid, Guids.same_guid}
use Rattle.guid_lists.specs.{declared.lists.GuidLists.GuidLists, Places.AreAt, Places.places}
use Rattle.guid_lists.specs.Lists.{HasInstead, Passes, Rises, list_of, passed_list, with_number, without_number}
use Rattle.guid_lists.proofs.Placing.{added, alike, from_on, one_more, rises, taken}
use Rattle.guid_lists.proofs.Passing.{same_is, same_self}
use Rattle.mem_store.specs.declared.guid_index.index.Indexed.{Indexed}
use Rattle.mem_store.specs.Entries.{entries_of, has_at, has_guid}

pub has_past : (list : List Indexed) (guid : Guid) (place : ℕ) → length list ≤ place → has_at list guid place ≡ false
has_past [] guid place le = refl
has_past (x ∷ xs) guid zero le = absurd (omega (arith, le))
has_past (x ∷ xs) guid (suc place) le = has_past xs guid place (omega (arith, le))

has_push : (list : List Indexed) (entry : Indexed) (guid : Guid) (place : ℕ) → place < length list → has_at (list ++ entry ∷ []) guid place ≡ has_at list guid place
has_push [] entry guid place less = absurd (omega (arith, less))
has_push (x ∷ xs) entry guid zero less = refl
has_push (x ∷ xs) entry guid (suc place) less = has_push xs entry guid place (omega (arith, less))

has_last : (list : List Indexed) (entry : Indexed) (guid : Guid) → has_at (list ++ entry ∷ []) guid (length list) ≡ has_guid guid entry
has_last [] entry guid = refl
has_last (x ∷ xs) entry guid = has_last xs entry guid

elsewhere : (list : List Indexed) (entry : Indexed) (guid : Guid) (k : ℕ) → (k ≡ length list → ⊥) → has_at (list ++ entry ∷ []) guid k ≡ has_at list guid k
elsewhere [] entry guid zero never = absurd (never refl)
elsewhere [] entry guid (suc k) never = refl
elsewhere (x ∷ xs) entry guid zero never = refl
elsewhere (x ∷ xs) entry guid (suc k) never = elsewhere xs entry guid k (λ e. never (ap suc e))

len_push : (list : List Indexed) (entry : Indexed) → length (list ++ entry ∷ []) ≡ suc (length list)
len_push list entry = let e = length-append list (entry ∷ []) in omega (arith, e)

placed_by : (list : List Indexed) (entry : Indexed) (guid : Guid) (b : Bool) → same_guid entry.guid guid ≡ b
    → cond b (with_number (length list) (places (has_at list entry.guid) (length list))) (places (has_at list guid) (length list))
    ≡ places (has_at (list ++ entry ∷ []) guid) (suc (length list))
placed_by list entry guid true e =
    let n = length list in
    ap (λ g. with_number n (places (has_at list g) n)) (same_is entry.guid guid e)
    ∙ ap (with_number n) (sym (one_more (has_at list guid) 0 n (has_past list guid (0 + n) (omega arith))))
    ∙ sym (added (has_at list guid) (has_at (list ++ entry ∷ []) guid) n 0 (suc n) (omega arith) (omega arith) (has_past list guid n (omega arith)) (has_last list entry guid ∙ e)
    (λ k never. elsewhere list entry guid k never))
placed_by list entry guid false e =
    let n = length list in
    let at_end : 0 + n ≡ n = omega arith in
    alike (has_at list guid) (has_at (list ++ entry ∷ []) guid) 0 n (λ k low high. sym (has_push list entry guid k (omega (arith, high))))
    ∙ sym (one_more (has_at (list ++ entry ∷ []) guid) 0 n (ap (has_at (list ++ entry ∷ []) guid) at_end ∙ has_last list entry guid ∙ e))

-- an entry comes behind the others
pub pushed : (old new : GuidLists) (list : List Indexed) (entry : Indexed) → AreAt old (has_at list) (length list)
    → HasInstead old entry.guid (with_number (length list) (list_of old entry.guid)) new → AreAt new (has_at (list ++ entry ∷ [])) (length (list ++ entry ∷ []))
pushed old new list entry are has = λ guid.
    has guid
    ∙ ap (λ l. cond (same_guid entry.guid guid) (with_number (length list) l) (list_of old guid)) (are entry.guid)
    ∙ ap (λ l. cond (same_guid entry.guid guid) (with_number (length list) (places (has_at list entry.guid) (length list))) l) (are guid)
    ∙ placed_by list entry guid (same_guid entry.guid guid) refl
    ∙ ap (places (has_at (list ++ entry ∷ []) guid)) (sym (len_push list entry))

pub risen : (lists : GuidLists) (list : List Indexed) (guid : Guid) → AreAt lists (has_at list) (length list) → Rises (list_of lists guid)
risen lists list guid are = subst Rises (sym (are guid)) (rises (has_at list guid) 0 (length list))

len_set : (list : List Indexed) (at : ℕ) (entry : Indexed) → length (slice_set list at entry) ≡ length list
len_set [] at entry = refl
len_set (x ∷ xs) zero entry = refl
len_set (x ∷ xs) (suc at) entry = ap suc (len_set xs at entry)

set_other : (list : List Indexed) (at : ℕ) (entry : Indexed) (guid : Guid) (k : ℕ) → (k ≡ at → ⊥) → has_at (slice_set list at entry) guid k ≡ has_at list guid k
set_other [] at entry guid k never = refl
set_other (x ∷ xs) zero entry guid zero never = absurd (never refl)
set_other (x ∷ xs) zero entry guid (suc k) never = refl
set_other (x ∷ xs) (suc at) entry guid zero never = refl
set_other (x ∷ xs) (suc at) entry guid (suc k) never = set_other xs at entry guid k (λ e. never (ap suc e))

set_here : (list : List Indexed) (at : ℕ) (entry : Indexed) (guid : Guid) → at < length list → has_at (slice_set list at entry) guid at ≡ has_guid guid entry
set_here [] at entry guid less = absurd (omega (arith, less))
set_here (x ∷ xs) zero entry guid less = refl
set_here (x ∷ xs) (suc at) entry guid less = set_here xs at entry guid (omega (arith, less))

had_here : (list : List Indexed) (at : ℕ) (old : Indexed) (guid : Guid) → slice_get list at ≡ Some old → has_at list guid at ≡ has_guid guid old
had_here [] at old guid there = cc
had_here (x ∷ xs) zero old guid there = let is : x ≡ old = cc in ap (has_guid guid) is
had_here (x ∷ xs) (suc at) old guid there = had_here xs at old guid there

there_within : (list : List Indexed) (at : ℕ) (old : Indexed) → slice_get list at ≡ Some old → at < length list
there_within [] at old there = cc
there_within (x ∷ xs) zero old there = omega arith
there_within (x ∷ xs) (suc at) old there = let rest = there_within xs at old there in omega (arith, rest)

-- nothing changes for a GUID that both have, or that neither has
set_same : (list : List Indexed) (at : ℕ) (old entry : Indexed) (guid : Guid) → slice_get list at ≡ Some old → has_guid guid entry ≡ has_guid guid old
    → (k : ℕ) → has_at (slice_set list at entry) guid k ≡ has_at list guid k
set_same [] at old entry guid there same k = refl
set_same (x ∷ xs) zero old entry guid there same zero = let is : x ≡ old = cc in same ∙ sym (ap (has_guid guid) is)
set_same (x ∷ xs) zero old entry guid there same (suc k) = refl
set_same (x ∷ xs) (suc at) old entry guid there same zero = refl
set_same (x ∷ xs) (suc at) old entry guid there same (suc k) = set_same xs at old entry guid there same k

unlike : (a b guid : Guid) (t : Bool) → same_guid a b ≡ false → same_guid a guid ≡ true → same_guid b guid ≡ t → t ≡ false
unlike a b guid true apart one two =
    let both : a ≡ b = same_is a guid one ∙ sym (same_is b guid two) in absurd (let bad : true ≡ false = sym (same_self a) ∙ ap (same_guid a) both ∙ apart in cc)
unlike a b guid false apart one two = refl

set_by : (list : List Indexed) (at : ℕ) (old entry : Indexed) (guid : Guid) (a b c : Bool) → slice_get list at ≡ Some old
    → same_guid old.guid entry.guid ≡ a → same_guid old.guid guid ≡ b → same_guid entry.guid guid ≡ c
    → cond a (places (has_at list guid) (length list))
    (cond b (without_number at (places (has_at list guid) (length list))) (cond c (with_number at (places (has_at list guid) (length list))) (places (has_at list guid) (length list))))
    ≡ places (has_at (slice_set list at entry) guid) (length list)
set_by list at old entry guid true b c there same one two =
    let e : has_guid guid entry ≡ has_guid guid old = ap (λ g. same_guid g guid) (sym (same_is old.guid entry.guid same)) in
    alike (has_at list guid) (has_at (slice_set list at entry) guid) 0 (length list) (λ k low high. sym (set_same list at old entry guid there e k))
set_by list at old entry guid false true c there apart one two =
    let less = there_within list at old there in
    sym (taken (has_at list guid) (has_at (slice_set list at entry) guid) at 0 (length list) (omega arith) (omega (arith, less)) (had_here list at old guid there ∙ one)
    (set_here list at entry guid less ∙ two ∙ unlike old.guid entry.guid guid c apart one two) (λ k never. set_other list at entry guid k never))
set_by list at old entry guid false false true there apart one two =
    let less = there_within list at old there in
    sym (added (has_at list guid) (has_at (slice_set list at entry) guid) at 0 (length list) (omega arith) (omega (arith, less)) (had_here list at old guid there ∙ one)
    (set_here list at entry guid less ∙ two) (λ k never. set_other list at entry guid k never))
set_by list at old entry guid false false false there apart one two =
    alike (has_at list guid) (has_at (slice_set list at entry) guid) 0 (length list) (λ k low high. sym (set_same list at old entry guid there (two ∙ sym one) k))

-- an entry comes in the place of another
pub replaced : (old new : GuidLists) (list : List Indexed) (at : ℕ) (was entry : Indexed) → slice_get list at ≡ Some was → AreAt old (has_at list) (length list)
    → Passes old at was.guid entry.guid new → AreAt new (has_at (slice_set list at entry)) (length (slice_set list at entry))
replaced old new list at was entry there are goes = λ guid.
    goes guid
    ∙ ap (passed_list at was.guid entry.guid guid) (are guid)
    ∙ set_by list at was entry guid (same_guid was.guid entry.guid) (same_guid was.guid guid) (same_guid entry.guid guid) there refl refl refl
    ∙ ap (places (has_at (slice_set list at entry) guid)) (sym (len_set list at entry))

pub kept_at : (old new : GuidLists) (list : List Indexed) → AreAt old (has_at list) (length list) → ((guid : Guid) → list_of new guid ≡ list_of old guid) → AreAt new (has_at list) (length list)
kept_at old new list are still = λ guid. still guid ∙ are guid

-- the n-th of a GUID
shifted : (whole : List Indexed) (x : Indexed) (xs : List Indexed) (at : ℕ) → ((k : ℕ) → slice_get whole (at + k) ≡ slice_get (x ∷ xs) k)
    → (k : ℕ) → slice_get whole (at + 1 + k) ≡ slice_get xs k
shifted whole x xs at same k = let e : at + 1 + k ≡ at + suc k = omega arith in ap (slice_get whole) e ∙ same (suc k)

here_is : (whole : List Indexed) (x : Indexed) (xs : List Indexed) (at : ℕ) → ((k : ℕ) → slice_get whole (at + k) ≡ slice_get (x ∷ xs) k) → slice_get whole at ≡ Some x
here_is whole x xs at same = let e : at ≡ at + 0 = omega arith in ap (slice_get whole) e ∙ same 0

nth_step : (whole : List Indexed) (x : Indexed) (at : ℕ) (ps : List ℕ) (es : List Indexed) (b : Bool) → slice_get whole at ≡ Some x
    → ((n : ℕ) → option_and_then (slice_get whole) (slice_get ps n) ≡ slice_get es n) → (n : ℕ)
    → option_and_then (slice_get whole) (slice_get (cond b (at ∷ ps) ps) n) ≡ slice_get (cond b (x ∷ es) es) n
nth_step whole x at ps es true here rest zero = here
nth_step whole x at ps es true here rest (suc n) = rest n
nth_step whole x at ps es false here rest n = rest n

nth_from : (whole list : List Indexed) (guid : Guid) (at : ℕ) → ((k : ℕ) → slice_get whole (at + k) ≡ slice_get list k) → (n : ℕ)
    → option_and_then (slice_get whole) (slice_get (from_on (has_at whole guid) at (length list)) n) ≡ slice_get (entries_of list guid) n
nth_from whole [] guid at same n = refl
nth_from whole (x ∷ xs) guid at same n =
    let here = here_is whole x xs at same in
    let rest = nth_from whole xs guid (at + 1) (shifted whole x xs at same) in
    ap (λ b. option_and_then (slice_get whole) (slice_get (cond b (at ∷ from_on (has_at whole guid) (at + 1) (length xs)) (from_on (has_at whole guid) (at + 1) (length xs))) n))
    (had_here whole at x guid here)
    ∙ nth_step whole x at (from_on (has_at whole guid) (at + 1) (length xs)) (entries_of xs guid) (has_guid guid x) here rest n

pub nth_is : (list : List Indexed) (guid : Guid) (n : ℕ)
    → option_and_then (slice_get list) (slice_get (places (has_at list guid) (length list)) n) ≡ slice_get (entries_of list guid) n
nth_is list guid n = nth_from list list guid 0 (λ k. let e : 0 + k ≡ k = omega arith in ap (slice_get list) e) n

-- how many there are
count_step : (x : Indexed) (at : ℕ) (ps : List ℕ) (es : List Indexed) (b : Bool) → length ps ≡ length es → length (cond b (at ∷ ps) ps) ≡ length (cond b (x ∷ es) es)
count_step x at ps es true e = ap suc e
count_step x at ps es false e = e

count_from : (whole list : List Indexed) (guid : Guid) (at : ℕ) → ((k : ℕ) → slice_get whole (at + k) ≡ slice_get list k)
    → length (from_on (has_at whole guid) at (length list)) ≡ length (entries_of list guid)
count_from whole [] guid at same = refl
count_from whole (x ∷ xs) guid at same =
    let here = here_is whole x xs at same in
    let rest = count_from whole xs guid (at + 1) (shifted whole x xs at same) in
    ap (λ b. length (cond b (at ∷ from_on (has_at whole guid) (at + 1) (length xs)) (from_on (has_at whole guid) (at + 1) (length xs)))) (had_here whole at x guid here)
    ∙ count_step x at (from_on (has_at whole guid) (at + 1) (length xs)) (entries_of xs guid) (has_guid guid x) rest

pub count_is : (list : List Indexed) (guid : Guid) → length (places (has_at list guid) (length list)) ≡ length (entries_of list guid)
count_is list guid = count_from list list guid 0 (λ k. let e : 0 + k ≡ k = omega arith in ap (slice_get list) e)

any_step : (x : Indexed) (es : List Indexed) (b t : Bool) → nat_lt 0 (length es) ≡ t → nat_lt 0 (length (cond b (x ∷ es) es)) ≡ (b || t)
any_step x es true t e = grind (arith, nat_tests)
any_step x es false t e = e

pub any_is : (list : List Indexed) (guid : Guid) → nat_lt 0 (length (entries_of list guid)) ≡ list_any (has_guid guid) list
any_is [] guid = grind (arith, nat_tests)
any_is (x ∷ xs) guid = any_step x (entries_of xs guid) (has_guid guid x) (list_any (has_guid guid) xs) (any_is xs guid)
