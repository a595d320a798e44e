-- A GUID came or went: what that changes, and how much has to be evaluated for it.
use Rattle.std.proofs.Common.{◌≡◌, ℕ, zero, suc, ◌+◌, ◌≤◌, ◌<◌, Bool, true, false, ◌&&◌, ◌||◌, cond, List, [], ◌∷◌, length, Option, Some, None, arith, ap, refl, sym, subst, ◌∙◌, inl, inr, slice_get, slice_set, filter, is_some, unwrap_or, ◌⊎◌, ◌==◌, nat_eq}
use Rattle.std.specs.{List.IsDistinct, List.AllByRecursion, Set.is_member}
use Rattle.std.proofs.{lemmas.Bool.Decides.eqb_tells, lemmas.Bool.Decides.Decides-eqb, lemmas.Cmp.nat_eq_equiv}
use Rattle.std.proofs.lemmas.Map.Made.{length-le_from_is_member, is_member-filter}
use Rattle.pi_base.specs.{declared.guid.Guid.Guid, declared.phase.Phase.Phase, GuidMap.value_of, Guids.same_guid}
use Rattle.wait_index.specs.{PlaceFlags.flag, declared.installed.Installed.Installed, declared.places.Places.Places}
use Rattle.wait_index.proofs.{Flags.flag_here, Flags.flag_other, Standings.is_within, Truth.one_guid, Truth.verdict_same}
use Rattle.mod_catalog.specs.{declared.catalogue.Catalog.Catalog, Parts.has_number}
use Rattle.boot_model.specs.{EvaluationBound.part_pushes, declared.known_guid.TheConstants.ARCHITECTURAL}
use Rattle.pi_base.specs.Lists.{EachPair, numbers}
use Rattle.wait_index.specs.{declared.index.WaitIndex.WaitIndex, Installed.is_there, Installed.slot_says, Rouse.IsRoused, Rouse.is_asked}
use Rattle.wait_index.specs.Index.{AreWatched, IsIndex, asked, order_in, waits_in, watchers_of, watchers_at}
use Rattle.wait_index.specs.Places.{order_of, standing_of, unknown, AreJudged}
use Rattle.wait_index.specs.Verdict.{verdict_of}

either_way : (b : Bool) → (b ≡ true) ⊎ (b ≡ false)
either_way true = inl refl
either_way false = inr refl

chosen_first : (b x y : Bool) → b ≡ true → x ≡ cond b x y
chosen_first true x y e = refl
chosen_first false x y e = absurd (cc)

chosen_second : (b x y : Bool) → (b ≡ true → ⊥) → y ≡ cond b x y
chosen_second true x y e = absurd (e refl)
chosen_second false x y e = refl

-- what a slot says of the GUIDs that have one
pub has_set : (phase : Phase) (catalog : Catalog) (watchers : List (List ℕ)) (old new : Installed) (guid : Guid) (slot : ℕ) (there : Bool) → AreWatched phase catalog old watchers
    → value_of old.slots guid ≡ Some slot → new.slots ≡ old.slots → new.there ≡ slice_set old.there slot there
    → (other : Guid) (at : ℕ) → value_of old.slots other ≡ Some at → is_there new other ≡ cond (same_guid guid other) there (is_there old other)
has_set phase catalog watchers old new guid slot there is here slots set other at other_here =
    let now : is_there new other ≡ flag (slice_set old.there slot there) at =
    ap (λ s. slot_says new.there (value_of s other)) slots ∙ ap (slot_says new.there) other_here ∙ ap (λ xs. flag xs at) set in
    let was : flag old.there at ≡ is_there old other = ap (slot_says old.there) (sym other_here) in
    now ∙ elim (eqb_tells slot at) [
      | inl same ↦
          let both : value_of old.slots other ≡ Some slot = other_here ∙ ap Some (sym same.1) in
          ap (flag (slice_set old.there slot there)) (sym same.1) ∙ flag_here old.there slot there (is.room guid slot here)
          ∙ chosen_first (same_guid guid other) there (is_there old other) (is.apart guid other slot here both)
      | inr apart ↦
          flag_other old.there slot there at apart.1 ∙ was
          ∙ chosen_second (same_guid guid other) there (is_there old other) (λ e. apart.1 (one_slot slot at (sym here ∙ ap (value_of old.slots) (one_guid guid other e) ∙ other_here)))
    ]
  where
    one_slot : (a b : ℕ) → Some a ≡ Some b → a ≡ b
    one_slot a b e = cc

length_set : (flags : List Bool) (slot : ℕ) (there : Bool) → length (slice_set flags slot there) ≡ length flags
length_set [] slot there = refl
length_set (f ∷ flags) zero there = refl
length_set (f ∷ flags) (suc slot) there = ap suc (length_set flags slot there)

pairs_still : (guids : List Guid) (old new : Installed) → new.slots ≡ old.slots → new.protocols ≡ old.protocols
    → EachPair (λ guid slot. value_of old.slots guid ≡ Some slot) guids old.protocols → EachPair (λ guid slot. value_of new.slots guid ≡ Some slot) guids new.protocols
pairs_still guids old new slots protocols pairs =
    subst (λ (ps : List ℕ). EachPair (λ guid slot. value_of new.slots guid ≡ Some slot) guids ps) (sym protocols)
    (subst (λ (s : List (Guid × ℕ)). EachPair (λ guid slot. value_of s guid ≡ Some slot) guids old.protocols) (sym slots) pairs)

pub watched_still : (phase : Phase) (catalog : Catalog) (watchers : List (List ℕ)) (old new : Installed) (slot : ℕ) (there : Bool) → AreWatched phase catalog old watchers → new.slots ≡ old.slots
    → new.there ≡ slice_set old.there slot there → new.protocols ≡ old.protocols → AreWatched phase catalog new watchers
watched_still phase catalog watchers old new slot there is slots set protocols = record {
  watched = λ guid at here. is.watched guid at (ap (λ s. value_of s guid) (sym slots) ∙ here);
  apart = λ guid other at here also. is.apart guid other at (ap (λ s. value_of s guid) (sym slots) ∙ here) (ap (λ s. value_of s other) (sym slots) ∙ also);
  room = λ guid at here.
      let less = is.room guid at (ap (λ s. value_of s guid) (sym slots) ∙ here) in
      omega (arith, less, ap length set, length_set old.there slot there);
  pushed = λ guid number pushes.
      let its = is.pushed guid number pushes in
      (its.0, ap (λ s. value_of s guid) slots ∙ its.1);
  protocols = λ dxe. pairs_still ARCHITECTURAL old new slots protocols (is.protocols dxe);
}

number_in : (from len number : ℕ) → from ≤ number → number < from + len → has_number (numbers from len) number ≡ true
number_in from zero number le less = absurd (omega (arith, le, less))
number_in from (suc len) number le less = elim (eqb_tells from number) [
  | inl same ↦ ap (λ b. b || has_number (numbers (from + 1) len) number) same.0
  | inr apart ↦ later (from == number) (has_number (numbers (from + 1) len) number) (number_in (from + 1) len number (next le apart.1) (omega (arith, less)))
]
  where
    later : (a b : Bool) → b ≡ true → (a || b) ≡ true
    later true b e = refl
    later false b e = e

    next : from ≤ number → ¬ (from ≡ number) → from + 1 ≤ number
    next le off = omega (arith, le, off)

has_filtered : (test : ℕ → Bool) (xs : List ℕ) (number : ℕ) → has_number xs number ≡ true → test number ≡ true → has_number (filter test xs) number ≡ true
has_filtered test [] number h t = let no : false ≡ true = h in absurd (cc)
has_filtered test (x ∷ xs) number h t = elim (eqb_tells x number) [
  | inl same ↦ kept (test x) (filter test xs) (ap test same.1 ∙ t) same.0
  | inr apart ↦ grown (test x) (filter test xs) (has_filtered test xs number (rest (x == number) (has_number xs number) apart.0 h) t)
]
  where
    or_later : (a b : Bool) → b ≡ true → (a || b) ≡ true
    or_later true b e = refl
    or_later false b e = e

    kept : (b : Bool) (ys : List ℕ) → b ≡ true → (x == number) ≡ true → has_number (cond b (x ∷ ys) ys) number ≡ true
    kept true ys e f = ap (λ a. a || has_number ys number) f
    kept false ys e f = absurd (cc)

    grown : (b : Bool) (ys : List ℕ) → has_number ys number ≡ true → has_number (cond b (x ∷ ys) ys) number ≡ true
    grown true ys e = or_later (x == number) (has_number ys number) e
    grown false ys e = e

    rest : (a b : Bool) → a ≡ false → (a || b) ≡ true → b ≡ true
    rest true b e h = absurd (cc)
    rest false b e h = h

-- what is not stale says what it said before
pub judged_still : (catalog : Catalog) (old : WaitIndex) (new : Installed) (places : Places) (guid : Guid) (slot : ℕ) (there : Bool) → IsIndex catalog old
    → value_of old.installed.slots guid ≡ Some slot → new.slots ≡ old.installed.slots → new.there ≡ slice_set old.installed.there slot there
    → IsRoused (watchers_at old.watchers slot) old.places places → AreJudged (verdict_of old.phase catalog (is_there new)) places
judged_still catalog old new places guid slot there is here slots set to place number at waits fresh =
    let was : slice_get (order_of old.places) place ≡ Some number = ap (λ o. slice_get o.items place) (sym to.order) ∙ at in
    let stood : standing_of places number ≡ standing_of old.places number = ap (λ xs. unwrap_or (slice_get xs number) unknown) to.standings in
    let waited : (standing_of old.places number).waits ≡ true = ap (λ s. s.waits) (sym stood) ∙ waits in
    elim (either_way (part_pushes old.phase catalog guid number)) [
      | inl pushes ↦
          let less : number < length catalog.modules = omega (arith, is_within old.places place number old.in_order was, is.as_many) in
          let watches : has_number (watchers_at old.watchers slot) number ≡ true =
          ap (λ xs. has_number xs number) (is.watched.watched guid slot here)
          ∙ has_filtered (part_pushes old.phase catalog guid) (numbers 0 (length catalog.modules)) number (number_in 0 (length catalog.modules) number (omega arith) (omega (arith, less))) pushes in
          let no : true ≡ false = sym (to.roused number place watches waited (old.in_order.placed place number was)) ∙ fresh in
          absurd (cc)
      | inr silent ↦
          ap (λ s. s.verdict) stood ∙ is.judged place number was waited (to.still place fresh)
          ∙ verdict_same old.phase catalog (is_there old.installed) (is_there new) number (λ other pushes.
          let its = is.watched.pushed other number pushes in
          let now = has_set old.phase catalog old.watchers old.installed new guid slot there is.watched here slots set other its.0 its.1 in
          chosen_second (same_guid guid other) there (is_there old.installed other) (λ e.
          let same = one_guid guid other e in
          let no : true ≡ false = sym pushes ∙ ap (λ g. part_pushes old.phase catalog g number) (sym same) ∙ silent in
          cc)
          ∙ sym now)
    ]

all_filtered : (P : ℕ → Type 0) (test : ℕ → Bool) (xs : List ℕ) → AllByRecursion P xs → AllByRecursion P (filter test xs)
all_filtered P test [] all = tt
all_filtered P test (x ∷ xs) all = one (test x) (filter test xs) all.0 (all_filtered P test xs all.1)
  where
    one : (b : Bool) (ys : List ℕ) → P x → AllByRecursion P ys → AllByRecursion P (cond b (x ∷ ys) ys)
    one true ys p e = (p, e)
    one false ys p e = e

distinct_filtered : (test : ℕ → Bool) (xs : List ℕ) → IsDistinct nat_eq xs → IsDistinct nat_eq (filter test xs)
unfolding IsDistinct
distinct_filtered test [] e = tt
distinct_filtered test (x ∷ xs) e = one (test x) (filter test xs) (all_filtered (λ y. nat_eq x y ≡ false) test xs e.0) (distinct_filtered test xs e.1)
  where
    one : (b : Bool) (ys : List ℕ) → AllByRecursion (λ y. nat_eq x y ≡ false) ys → IsDistinct nat_eq ys → IsDistinct nat_eq (cond b (x ∷ ys) ys)
    one true ys p e = (p, e)
    one false ys p e = e

not_equal : (a b : ℕ) → a < b → nat_eq a b ≡ false
not_equal a b less = elim (eqb_tells a b) [ inl same ↦ absurd (omega (arith, less, same.1)) | inr apart ↦ apart.0 ]

all_above : (low from len : ℕ) → low < from → AllByRecursion (λ y. nat_eq low y ≡ false) (numbers from len)
all_above low from zero less = tt
all_above low from (suc len) less = (not_equal low from less, all_above low (from + 1) len (omega (arith, less)))

distinct_numbers : (from len : ℕ) → IsDistinct nat_eq (numbers from len)
unfolding IsDistinct
distinct_numbers from zero = tt
distinct_numbers from (suc len) = (all_above from (from + 1) len (omega arith), distinct_numbers (from + 1) len)

member_at : (xs : List ℕ) (place number : ℕ) → slice_get xs place ≡ Some number → is_member nat_eq xs number ≡ true
member_at [] place number at = let no : None ≡ Some number = at in absurd (cc)
member_at (x ∷ xs) zero number at =
    let same : x ≡ number = cc in
    ap (λ b. b || is_member nat_eq xs number) ((Decides-eqb number x).1 (sym same))
member_at (x ∷ xs) (suc place) number at = later (nat_eq number x) (is_member nat_eq xs number) (member_at xs place number at)
  where
    later : (a b : Bool) → b ≡ true → (a || b) ≡ true
    later true b e = refl
    later false b e = e

both_true : (a b : Bool) → (a && b) ≡ true → (a ≡ true) × (b ≡ true)
both_true true b e = (refl, e)
both_true false b e = absurd (cc)

and_true : (a b : Bool) → a ≡ true → b ≡ true → (a && b) ≡ true
and_true true b e f = f
and_true false b e f = absurd (cc)

the_place : (o : Option ℕ) → is_some o ≡ true → (place : ℕ) × (o ≡ Some place)
the_place (Some place) e = (place, refl)
the_place None e = absurd (cc)

member_filtered : (test : ℕ → Bool) (xs : List ℕ) (number : ℕ) → is_member nat_eq (filter test xs) number ≡ (is_member nat_eq xs number && test number)
member_filtered test xs number = is_member-filter nat_eq_equiv test number (λ x e. ap test ((Decides-eqb number x).0 e)) xs

-- no more watchers wait than parts of the order that push the GUID
pub asked_few : (catalog : Catalog) (index : WaitIndex) (guid : Guid) → IsIndex catalog index
    → length (filter (is_asked index.places) (watchers_of index.phase catalog guid)) ≤ asked catalog index guid
asked_few catalog index guid is =
    let pushes : ℕ → Bool = part_pushes index.phase catalog guid in
    let both : ℕ → Bool = λ number. waits_in index number && pushes number in
    let all = numbers 0 (length catalog.modules) in
    length-le_from_is_member nat_eq_equiv (filter (is_asked index.places) (filter pushes all)) (filter both (order_in index))
    (distinct_filtered (is_asked index.places) (filter pushes all) (distinct_filtered pushes all (distinct_numbers 0 (length catalog.modules))))
    (λ number e.
    let outer = both_true (is_member nat_eq (filter pushes all) number) (is_asked index.places number) (sym (member_filtered (is_asked index.places) (filter pushes all) number) ∙ e) in
    let inner = both_true (is_member nat_eq all number) (pushes number) (sym (member_filtered pushes all number) ∙ outer.0) in
    let stands = both_true (standing_of index.places number).waits (is_some (standing_of index.places number).place) outer.1 in
    let place = the_place (standing_of index.places number).place stands.1 in
    let at = index.in_order.known number place.0 place.1 in
    member_filtered both (order_in index) number
    ∙ and_true (is_member nat_eq (order_in index) number) (both number) (member_at (order_in index) place.0 number at) (and_true (waits_in index number) (pushes number) stands.0 inner.1))
