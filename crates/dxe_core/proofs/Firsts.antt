-- The first item that passes a test: what is found there, and what a change of it makes.
use Rattle.std.proofs.Common.{◌≡◌, ℕ, zero, suc, ◌<◌, ◌≤◌, ◌==◌, Bool, true, false, ◌&&◌, ◌||◌, cond, List, [], ◌∷◌, length, get_or, Some, None, refl, sym, ap, ◌∙◌, arith, find, remove, slice_set}
use Rattle.std.specs.List.{list_any}
use Rattle.std.proofs.{lemmas.Bool.Decides.nat_tests, lemmas.Slice.Eq.bytes_eq-Decides}
use Rattle.pi_base.specs.{declared.guid.Guid.Guid, Guids.same_guid, Lists.Each, Lists.Ordered}
use Rattle.pi_base.proofs.ListFacts.{each_more}
use Rattle.store_model.specs.{declared.interface.Interface.Interface, HandleFacts.AreOfOthers}
use Rattle.store_model.specs.HandleState.{is_on, is_on_with, with_value, without}
use Rattle.dxe_core.specs.Places.{IsStretch, IsFirst}

-- it is within the list, and is found
pub first_within : {A : Type 0} (test : A → Bool) (xs : List A) (k : ℕ) → IsFirst test xs k → k < length xs
first_within test [] k f = absurd f
first_within test (x ∷ xs) zero f = omega arith
first_within test (x ∷ xs) (suc k) f = let on = first_within test xs k f.1 in omega (arith, on)

pub first_any : {A : Type 0} (test : A → Bool) (xs : List A) (k : ℕ) → IsFirst test xs k → list_any test xs ≡ true
first_any test [] k f = absurd f
first_any test (x ∷ xs) zero f = ap (λ b. b || list_any test xs) f
first_any test (x ∷ xs) (suc k) f = ap (λ b. b || list_any test xs) f.0 ∙ first_any test xs k f.1

pub first_found : {A : Type 0} (test : A → Bool) (xs : List A) (k : ℕ) (d : A) → IsFirst test xs k → find test xs ≡ Some (get_or xs k d)
first_found test [] k d f = absurd f
first_found test (x ∷ xs) zero d f = ap (λ b. cond b (Some x) (find test xs)) f
first_found test (x ∷ xs) (suc k) d f = ap (λ b. cond b (Some x) (find test xs)) f.0 ∙ first_found test xs k d f.1

pub first_at : {A : Type 0} (test : A → Bool) (xs : List A) (k : ℕ) (d : A) → IsFirst test xs k → test (get_or xs k d) ≡ true
first_at test [] k d f = absurd f
first_at test (x ∷ xs) zero d f = f
first_at test (x ∷ xs) (suc k) d f = first_at test xs k d f.1

pub neither : (a b : Bool) → (a || b) ≡ false → (a ≡ false) × (b ≡ false)
neither true b h = cc
neither false b h = (refl, h)

pub none_found : {A : Type 0} (test : A → Bool) (xs : List A) → list_any test xs ≡ false → find test xs ≡ None
none_found test [] h = refl
none_found test (x ∷ xs) h = let both = neither (test x) (list_any test xs) h in ap (λ b. cond b (Some x) (find test xs)) both.0 ∙ none_found test xs both.1

pub each_fails : {A : Type 0} (test : A → Bool) (xs : List A) → list_any test xs ≡ false → Each (λ x. test x ≡ false) xs
each_fails test [] h = tt
each_fails test (x ∷ xs) h = let both = neither (test x) (list_any test xs) h in (both.0, each_fails test xs both.1)

pub none_passes : {A : Type 0} (test : A → Bool) (xs : List A) → Each (λ x. test x ≡ false) xs → list_any test xs ≡ false
none_passes test [] e = refl
none_passes test (x ∷ xs) e = ap (λ b. b || list_any test xs) e.0 ∙ none_passes test xs e.1

-- another value there, and the list without it
pub valued : (test : Interface → Bool) (value : ℕ) (is : List Interface) (k : ℕ) (d : Interface) → IsFirst test is k → with_value test value is ≡ slice_set is k (record (get_or is k d) { value = value })
valued test value [] k d f = absurd f
valued test value (i ∷ is) zero d f = ap (λ b. cond b (record i { value = value } ∷ is) (i ∷ with_value test value is)) f
valued test value (i ∷ is) (suc k) d f = ap (λ b. cond b (record i { value = value } ∷ is) (i ∷ with_value test value is)) f.0 ∙ ap (λ l. i ∷ l) (valued test value is k d f.1)

pub removed : (test : Interface → Bool) (is : List Interface) (k : ℕ) → IsFirst test is k → without test is ≡ remove is k
removed test [] k f = absurd f
removed test (i ∷ is) zero f = ap (λ b. cond b is (i ∷ without test is)) f
removed test (i ∷ is) (suc k) f = ap (λ b. cond b is (i ∷ without test is)) f.0 ∙ ap (λ l. i ∷ l) (removed test is k f.1)

-- the parts of a test
pub both_of : (a b : Bool) → (a && b) ≡ true → (a ≡ true) × (b ≡ true)
both_of true b h = (refl, h)
both_of false b h = cc

pub first_fails : (a b : Bool) → a ≡ false → (a && b) ≡ false
first_fails a b h = ap (λ t. t && b) h

pub second_fails : (a b : Bool) → b ≡ false → (a && b) ≡ false
second_fails true b h = h
second_fails false b h = refl

pub both_pass : (a b : Bool) → a ≡ true → b ≡ true → (a && b) ≡ true
both_pass a b h k = ap (λ t. t && b) h ∙ k

pub is_handle : (a b : ℕ) → (a == b) ≡ true → a ≡ b
is_handle a b h = grind (arith, nat_tests)

pub equal : (a b : ℕ) → a ≡ b → (a == b) ≡ true
equal a b h = grind (arith, nat_tests)

pub unequal : (a b : ℕ) → (a ≡ b → ⊥) → (a == b) ≡ false
unequal a b h = by (a == b) refl
  where
    by : (t : Bool) → (a == b) ≡ t → (a == b) ≡ false
    by true e = absurd (h (is_handle a b e))
    by false e = e

pub guid_is : (a b : Guid) → same_guid a b ≡ true → a.0 ≡ b.0
guid_is a b h = (bytes_eq-Decides a.0 b.0).0 h

-- in a handle's stretch the first interface of a protocol, or none
pub place_first : (handle : ℕ) (guid : Guid) (is : List Interface) (begin end place : ℕ) (d : Interface) → IsStretch handle is begin end → begin ≤ place → place < end
    → same_guid (get_or is place d).guid guid ≡ true → ((k : ℕ) → begin ≤ k → k < place → same_guid (get_or is k d).guid guid ≡ false) → IsFirst (is_on handle guid) is place
place_first handle guid [] begin end place d s low high here before = let e = s.1 in absurd (omega (arith, e, high))
place_first handle guid (i ∷ is) (suc begin) (suc end) zero d s low high here before = absurd (omega (arith, low))
place_first handle guid (i ∷ is) (suc begin) (suc end) (suc place) d s low high here before =
    let less = s.0 in
    let other : (i.handle == handle) ≡ false = grind (arith, nat_tests) in (
      first_fails (i.handle == handle) (same_guid i.guid guid) other,
      place_first handle guid is begin end place d s.1 (omega (arith, low)) (omega (arith, high)) here (λ k from to. before (suc k) (omega (arith, from)) (omega (arith, to))),
    )
place_first handle guid (i ∷ is) (suc begin) zero place d s low high here before = absurd s
place_first handle guid (i ∷ is) zero (suc end) zero d s low high here before = both_pass (i.handle == handle) (same_guid i.guid guid) (equal i.handle handle s.0) here
place_first handle guid (i ∷ is) zero (suc end) (suc place) d s low high here before = (
  second_fails (i.handle == handle) (same_guid i.guid guid) (before 0 (omega arith) (omega arith)),
  place_first handle guid is zero end place d s.1 (omega arith) (omega (arith, high)) here (λ k from to. before (suc k) (omega arith) (omega (arith, to))),
)
place_first handle guid (i ∷ is) zero zero place d s low high here before = absurd (omega (arith, high))

pub place_none : (handle : ℕ) (guid : Guid) (is : List Interface) (begin end : ℕ) (d : Interface) → IsStretch handle is begin end
    → ((k : ℕ) → begin ≤ k → k < end → same_guid (get_or is k d).guid guid ≡ false) → list_any (is_on handle guid) is ≡ false
place_none handle guid [] begin end d s none = refl
place_none handle guid (i ∷ is) (suc begin) (suc end) d s none =
    let less = s.0 in
    let other : (i.handle == handle) ≡ false = grind (arith, nat_tests) in
    ap (λ b. b || list_any (is_on handle guid) is) (first_fails (i.handle == handle) (same_guid i.guid guid) other)
    ∙ place_none handle guid is begin end d s.1 (λ k from to. none (suc k) (omega (arith, from)) (omega (arith, to)))
place_none handle guid (i ∷ is) (suc begin) zero d s none = absurd s
place_none handle guid (i ∷ is) zero (suc end) d s none =
    ap (λ b. b || list_any (is_on handle guid) is) (second_fails (i.handle == handle) (same_guid i.guid guid) (none 0 (omega arith) (omega arith)))
    ∙ place_none handle guid is zero end d s.1 (λ k from to. none (suc k) (omega arith) (omega (arith, to)))
place_none handle guid (i ∷ is) zero zero d s none =
    let more = s.0 in
    let other : (i.handle == handle) ≡ false = grind (arith, nat_tests) in
    ap (λ b. b || list_any (is_on handle guid) is) (first_fails (i.handle == handle) (same_guid i.guid guid) other)
    ∙ place_none handle guid is zero zero d s.1 (λ k from to. absurd (omega (arith, to)))

-- the interface of a protocol has the value
pub first_with : (handle : ℕ) (guid : Guid) (value : ℕ) (is : List Interface) (k : ℕ) (d : Interface) → IsFirst (is_on handle guid) is k → (get_or is k d).value ≡ value → IsFirst (is_on_with handle guid value) is k
first_with handle guid value [] k d f v = absurd f
first_with handle guid value (i ∷ is) zero d f v = both_pass (is_on handle guid i) (i.value == value) f (equal i.value value v)
first_with handle guid value (i ∷ is) (suc k) d f v = (first_fails (is_on handle guid i) (i.value == value) f.0, first_with handle guid value is k d f.1 v)

-- one that is of another handle or protocol than one on a handle
of_another : (handle : ℕ) (guid : Guid) (i j : Interface) → is_on handle guid i ≡ true → is_on i.handle i.guid j ≡ false → is_on handle guid j ≡ false
of_another handle guid i j on other =
    let both = both_of (i.handle == handle) (same_guid i.guid guid) on in
    sym (ap (λ n. is_on n i.guid j) (is_handle i.handle handle both.0) ∙ ap (λ bytes. is_on handle (record { 0 = bytes }) j) (guid_is i.guid guid both.1)) ∙ other

-- it has another value, and no other interface has it
pub other_value : (handle : ℕ) (guid : Guid) (value : ℕ) (is : List Interface) (k : ℕ) (d : Interface) → Ordered AreOfOthers is → IsFirst (is_on handle guid) is k → ((get_or is k d).value ≡ value → ⊥)
    → list_any (is_on_with handle guid value) is ≡ false
other_value handle guid value [] k d o f never = refl
other_value handle guid value (i ∷ is) zero d o f never =
    ap (λ b. b || list_any (is_on_with handle guid value) is) (second_fails (is_on handle guid i) (i.value == value) (unequal i.value value never))
    ∙ none_passes (is_on_with handle guid value) is
    (each_more (AreOfOthers i) (λ j. is_on_with handle guid value j ≡ false) is (λ j apart. first_fails (is_on handle guid j) (j.value == value) (of_another handle guid i j f apart.1)) o.0)
other_value handle guid value (i ∷ is) (suc k) d o f never =
    ap (λ b. b || list_any (is_on_with handle guid value) is) (first_fails (is_on handle guid i) (i.value == value) f.0) ∙ other_value handle guid value is k d o.1 f.1 never

pub none_with : (handle : ℕ) (guid : Guid) (value : ℕ) (is : List Interface) → list_any (is_on handle guid) is ≡ false → list_any (is_on_with handle guid value) is ≡ false
none_with handle guid value is none =
    none_passes (is_on_with handle guid value) is
    (each_more (λ i. is_on handle guid i ≡ false) (λ i. is_on_with handle guid value i ≡ false) is (λ i h. first_fails (is_on handle guid i) (i.value == value) h) (each_fails (is_on handle guid) is none))

-- what stands at the first place passes
pub first_passes : {A : Type 0} (P : A → Type 0) (test : A → Bool) (xs : List A) (k : ℕ) → IsFirst test xs k → Each P xs → (x : A) × (test x ≡ true) × P x
first_passes P test [] k f e = absurd f
first_passes P test (x ∷ xs) zero f e = (x, f, e.0)
first_passes P test (x ∷ xs) (suc k) f e = first_passes P test xs k f.1 e.1
