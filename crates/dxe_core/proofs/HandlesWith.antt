-- The handles of a protocol: they rise, and what an interface more or less makes of them.
use Rattle.std.proofs.Common.{◌≡◌, ℕ, zero, suc, ◌<◌, ◌≤◌, ◌==◌, Bool, true, false, ◌&&◌, ◌||◌, cond, List, [], ◌∷◌, ◌++◌, Some, refl, sym, ap, ◌∙◌, subst, arith, nat_lt, find, filter, map}
use Rattle.std.specs.List.{list_any}
use Rattle.std.proofs.lemmas.Bool.Decides.{nat_tests}
use Rattle.pi_base.specs.{declared.guid.Guid.Guid, Guids.same_guid, Lists.Each, Lists.Ordered}
use Rattle.pi_base.proofs.ListFacts.{each_more, each_both}
use Rattle.store_model.specs.{declared.interface.Interface.Interface, HandleFacts.IsNotBehind, HandleFacts.AreOfOthers}
use Rattle.store_model.specs.HandleState.{is_on, is_on_with, placed, with_value, without}
use Rattle.guid_lists.specs.Lists.{Rises, with_number, without_number}
use Rattle.dxe_core.specs.{Index.handles_with, Places.IsFirst}
use Rattle.dxe_core.proofs.Firsts.{both_of, both_pass, is_handle, equal, unequal, guid_is, first_passes}

-- one interface more at the front
cons : (guid : Guid) (i : Interface) (is : List Interface) → handles_with guid (i ∷ is) ≡ cond (same_guid i.guid guid) (i.handle ∷ handles_with guid is) (handles_with guid is)
cons guid i is = elim (same_guid i.guid guid) as (λ b. map (λ i. i.handle) (cond b (i ∷ filter (λ i. same_guid i.guid guid) is) (filter (λ i. same_guid i.guid guid) is)) ≡ cond b (i.handle ∷ handles_with guid is) (handles_with guid is)) [ true ↦ refl | false ↦ refl ]

-- what holds of the interfaces of a protocol
each_cond : (P : ℕ → Type 0) (b : Bool) (n : ℕ) (ns : List ℕ) → (b ≡ true → P n) → Each P ns → Each P (cond b (n ∷ ns) ns)
each_cond P true n ns p e = (p refl, e)
each_cond P false n ns p e = e

each_with : (P : ℕ → Type 0) (guid : Guid) (is : List Interface) → Each (λ i. same_guid i.guid guid ≡ true → P i.handle) is → Each P (handles_with guid is)
each_with P guid [] e = tt
each_with P guid (i ∷ is) e = subst (Each P) (sym (cons guid i is)) (each_cond P (same_guid i.guid guid) i.handle (handles_with guid is) e.0 (each_with P guid is e.1))

-- two interfaces of one protocol are on two handles
guids_same : (a b c : Guid) → same_guid a c ≡ true → same_guid b c ≡ true → same_guid a b ≡ true
guids_same a b c h k = ap (λ bytes. same_guid a (record { 0 = bytes })) (guid_is b c k) ∙ h

apart : (guid : Guid) (i j : Interface) → same_guid i.guid guid ≡ true → same_guid j.guid guid ≡ true → is_on j.handle j.guid i ≡ false → i.handle ≡ j.handle → ⊥
apart guid i j h k other same = never (sym (both_pass (i.handle == j.handle) (same_guid i.guid j.guid) (equal i.handle j.handle same) (guids_same i.guid j.guid guid h k)) ∙ other)
  where
    never : true ≡ false → ⊥
    never e = cc

above : (a b : ℕ) → a ≤ b → (a ≡ b → ⊥) → a < b
above a b le never = by (a == b) refl
  where
    by : (t : Bool) → (a == b) ≡ t → a < b
    by true e = absurd (never (is_handle a b e))
    by false e = grind (arith, nat_tests)

rise_cond : (b : Bool) (n : ℕ) (ns : List ℕ) → (b ≡ true → Each (λ m. n < m) ns) → Rises ns → Rises (cond b (n ∷ ns) ns)
rise_cond true n ns e r = (e refl, r)
rise_cond false n ns e r = r

pub rises : (guid : Guid) (is : List Interface) → Ordered IsNotBehind is → Ordered AreOfOthers is → Rises (handles_with guid is)
rises guid [] o u = tt
rises guid (i ∷ is) o u =
    subst Rises (sym (cons guid i is))
    (rise_cond (same_guid i.guid guid) i.handle (handles_with guid is)
    (λ same. each_with (λ m. i.handle < m) guid is
    (each_more (λ j. IsNotBehind i j × AreOfOthers i j) (λ j. same_guid j.guid guid ≡ true → i.handle < j.handle) is (λ j h also. above i.handle j.handle h.0 (apart guid i j same also h.1.0))
    (each_both (IsNotBehind i) (AreOfOthers i) is o.0 u.0)))
    (rises guid is o.1 u.1))

-- a handle below the others comes first
put_first : (n : ℕ) (ns : List ℕ) → Each (λ m. n < m) ns → with_number n ns ≡ n ∷ ns
put_first n [] e = refl
put_first n (m ∷ ns) e = let more = e.0 in let behind : nat_lt m n ≡ false = grind (arith, nat_tests) in ap (λ b. cond b (m ∷ with_number n ns) (n ∷ m ∷ ns)) behind

put_later : (n m : ℕ) (ns : List ℕ) → m < n → with_number n (m ∷ ns) ≡ m ∷ with_number n ns
put_later n m ns less = let before : nat_lt m n ≡ true = grind (arith, nat_tests) in ap (λ b. cond b (m ∷ with_number n ns) (n ∷ m ∷ ns)) before

-- with a new interface in its place
abbrev With : Interface → Guid → List ℕ → List ℕ
With new guid ns = cond (same_guid new.guid guid) (with_number new.handle ns) ns

front : (new : Interface) (guid : Guid) (ns : List ℕ) (b : Bool) → Each (λ m. new.handle < m) ns → cond b (new.handle ∷ ns) ns ≡ cond b (with_number new.handle ns) ns
front new guid ns true e = sym (put_first new.handle ns e)
front new guid ns false e = refl

later : (n m : ℕ) (ns : List ℕ) (b t : Bool) → (t ≡ true → b ≡ true → m < n) → cond t (m ∷ cond b (with_number n ns) ns) (cond b (with_number n ns) ns) ≡ cond b (with_number n (cond t (m ∷ ns) ns)) (cond t (m ∷ ns) ns)
later n m ns true true less = sym (put_later n m ns (less refl refl))
later n m ns true false less = refl
later n m ns false true less = refl
later n m ns false false less = refl

placed_step : (new : Interface) (guid : Guid) (i : Interface) (is : List Interface) (b : Bool) → nat_lt new.handle i.handle ≡ b → is_on new.handle new.guid i ≡ false → Each (IsNotBehind i) is
    → handles_with guid (placed new is) ≡ With new guid (handles_with guid is) → handles_with guid (cond b (new ∷ i ∷ is) (i ∷ placed new is)) ≡ With new guid (handles_with guid (i ∷ is))
placed_step new guid i is true e none o on =
    let less : new.handle < i.handle = grind (arith, nat_tests) in
    cons guid new (i ∷ is)
    ∙ front new guid (handles_with guid (i ∷ is)) (same_guid new.guid guid)
    (each_with (λ m. new.handle < m) guid (i ∷ is) ((λ _. less), each_more (IsNotBehind i) (λ j. same_guid j.guid guid ≡ true → new.handle < j.handle) is (λ j le _. omega (arith, less, le)) o))
placed_step new guid i is false e none o on =
    let most : i.handle ≤ new.handle = grind (arith, nat_tests) in
    cons guid i (placed new is)
    ∙ ap (λ l. cond (same_guid i.guid guid) (i.handle ∷ l) l) on
    ∙ later new.handle i.handle (handles_with guid is) (same_guid new.guid guid) (same_guid i.guid guid) (λ h k. above i.handle new.handle most (apart guid i new h k none))
    ∙ ap (With new guid) (sym (cons guid i is))

pub held_placed : (new : Interface) (guid : Guid) (is : List Interface) → Each (λ i. is_on new.handle new.guid i ≡ false) is → Ordered IsNotBehind is
    → handles_with guid (placed new is) ≡ With new guid (handles_with guid is)
held_placed new guid [] none o = cons guid new []
held_placed new guid (i ∷ is) none o = placed_step new guid i is (nat_lt new.handle i.handle) refl none.0 o.0 (held_placed new guid is none.1 o.1)

-- behind all others
pub placed_last : (new : Interface) (is : List Interface) → Each (λ i. i.handle < new.handle) is → placed new is ≡ is ++ new ∷ []
placed_last new [] e = refl
placed_last new (i ∷ is) e =
    let less = e.0 in
    let behind : nat_lt new.handle i.handle ≡ false = grind (arith, nat_tests) in
    ap (λ b. cond b (new ∷ i ∷ is) (i ∷ placed new is)) behind ∙ ap (λ l. i ∷ l) (placed_last new is e.1)

-- without an interface
abbrev Without : ℕ → Guid → Guid → List ℕ → List ℕ
Without handle guid other ns = cond (same_guid guid other) (without_number handle ns) ns

take_first : (n m : ℕ) (ns : List ℕ) (b : Bool) → m ≡ n → ns ≡ cond b (without_number n (cond b (m ∷ ns) ns)) (cond b (m ∷ ns) ns)
take_first n m ns true same = sym (ap (λ t. cond t ns (m ∷ without_number n ns)) (equal m n same))
take_first n m ns false same = refl

take_later : (n m : ℕ) (ns : List ℕ) (b t : Bool) → (t ≡ true → b ≡ true → m ≡ n → ⊥) → cond t (m ∷ cond b (without_number n ns) ns) (cond b (without_number n ns) ns) ≡ cond b (without_number n (cond t (m ∷ ns) ns)) (cond t (m ∷ ns) ns)
take_later n m ns true true other = sym (ap (λ t. cond t ns (m ∷ without_number n ns)) (unequal m n (other refl refl)))
take_later n m ns true false other = refl
take_later n m ns false true other = refl
take_later n m ns false false other = refl

same_test : (a b c : Guid) → same_guid a b ≡ true → same_guid a c ≡ same_guid b c
same_test a b c h = ap (λ bytes. same_guid (record { 0 = bytes }) c) (guid_is a b h)

pub held_without : (handle : ℕ) (guid : Guid) (value : ℕ) (other : Guid) (is : List Interface) (k : ℕ) → Ordered AreOfOthers is → IsFirst (is_on_with handle guid value) is k
    → handles_with other (without (is_on_with handle guid value) is) ≡ Without handle guid other (handles_with other is)
held_without handle guid value other [] k o f = absurd f
held_without handle guid value other (i ∷ is) zero o f =
    let on = both_of (i.handle == handle) (same_guid i.guid guid) (both_of (is_on handle guid i) (i.value == value) f).0 in
    let same = same_test i.guid guid other on.1 in
    ap (λ b. handles_with other (cond b is (i ∷ without (is_on_with handle guid value) is))) f
    ∙ take_first handle i.handle (handles_with other is) (same_guid guid other) (is_handle i.handle handle on.0)
    ∙ ap (λ b. Without handle guid other (cond b (i.handle ∷ handles_with other is) (handles_with other is))) (sym same)
    ∙ ap (Without handle guid other) (sym (cons other i is))
held_without handle guid value other (i ∷ is) (suc k) o f =
    let test = is_on_with handle guid value in
    let j = first_passes (AreOfOthers i) test is k f.1 o.0 in
    let on = both_of (j.0.handle == handle) (same_guid j.0.guid guid) (both_of (is_on handle guid j.0) (j.0.value == value) j.1).0 in
    let elsewhere : is_on handle guid i ≡ false =
    sym (ap (λ n. is_on n j.0.guid i) (is_handle j.0.handle handle on.0) ∙ ap (λ bytes. is_on handle (record { 0 = bytes }) i) (guid_is j.0.guid guid on.1)) ∙ j.2.0 in
    ap (λ b. handles_with other (cond b is (i ∷ without test is))) f.0
    ∙ cons other i (without test is)
    ∙ ap (λ l. cond (same_guid i.guid other) (i.handle ∷ l) l) (held_without handle guid value other is k o.1 f.1)
    ∙ take_later handle i.handle (handles_with other is) (same_guid guid other) (same_guid i.guid other) (λ h k same. not_here handle guid other i elsewhere h k same)
    ∙ ap (Without handle guid other) (sym (cons other i is))
  where
    not_here : (handle : ℕ) (guid other : Guid) (i : Interface) → is_on handle guid i ≡ false → same_guid i.guid other ≡ true → same_guid guid other ≡ true → i.handle ≡ handle → ⊥
    not_here handle guid other i elsewhere h k same = never (sym (both_pass (i.handle == handle) (same_guid i.guid guid) (equal i.handle handle same) (guids_same i.guid guid other h k)) ∙ elsewhere)
      where
        never : true ≡ false → ⊥
        never e = cc

-- another value changes no handle
pub held_valued : (test : Interface → Bool) (value : ℕ) (guid : Guid) (is : List Interface) → handles_with guid (with_value test value is) ≡ handles_with guid is
held_valued test value guid [] = refl
held_valued test value guid (i ∷ is) =
    elim (test i) as (λ b. handles_with guid (cond b (record i { value = value } ∷ is) (i ∷ with_value test value is)) ≡ handles_with guid (i ∷ is)) [
      | true ↦ cons guid (record i { value = value }) is ∙ sym (cons guid i is)
      | false ↦ cons guid i (with_value test value is) ∙ ap (λ l. cond (same_guid i.guid guid) (i.handle ∷ l) l) (held_valued test value guid is) ∙ sym (cons guid i is)
    ]

-- the first interface of a protocol is that of its first handle
head_step : (handle : ℕ) (guid : Guid) (i : Interface) (is : List Interface) (rest : List ℕ) (b : Bool) → same_guid i.guid guid ≡ b → (handles_with guid is ≡ handle ∷ rest → find (λ i. same_guid i.guid guid) is ≡ find (is_on handle guid) is)
    → cond b (i.handle ∷ handles_with guid is) (handles_with guid is) ≡ handle ∷ rest → cond b (Some i) (find (λ i. same_guid i.guid guid) is) ≡ cond (is_on handle guid i) (Some i) (find (is_on handle guid) is)
head_step handle guid i is rest true e on h =
    let same : i.handle ≡ handle = heads h in
    sym (ap (λ t. cond t (Some i) (find (is_on handle guid) is)) (both_pass (i.handle == handle) (same_guid i.guid guid) (equal i.handle handle same) e))
  where
    heads : {a b : ℕ} {xs ys : List ℕ} → a ∷ xs ≡ b ∷ ys → a ≡ b
    heads e = cc
head_step handle guid i is rest false e on h = on h ∙ sym (ap (λ t. cond t (Some i) (find (is_on handle guid) is)) (second (i.handle == handle) (same_guid i.guid guid) e))
  where
    second : (a b : Bool) → b ≡ false → (a && b) ≡ false
    second true b h = h
    second false b h = refl

pub found_by_head : (handle : ℕ) (guid : Guid) (is : List Interface) (rest : List ℕ) → handles_with guid is ≡ handle ∷ rest → find (λ i. same_guid i.guid guid) is ≡ find (is_on handle guid) is
found_by_head handle guid [] rest h = cc
found_by_head handle guid (i ∷ is) rest h = head_step handle guid i is rest (same_guid i.guid guid) refl (found_by_head handle guid is rest) (sym (cons guid i is) ∙ h)

-- none is there where there is no handle
none_step : (guid : Guid) (i : Interface) (is : List Interface) (b : Bool) → (handles_with guid is ≡ [] → list_any (λ i. same_guid i.guid guid) is ≡ false) → cond b (i.handle ∷ handles_with guid is) (handles_with guid is) ≡ []
    → (b || list_any (λ i. same_guid i.guid guid) is) ≡ false
none_step guid i is true on h = cc
none_step guid i is false on h = on h

pub none_there : (guid : Guid) (is : List Interface) → handles_with guid is ≡ [] → list_any (λ i. same_guid i.guid guid) is ≡ false
none_there guid [] h = refl
none_there guid (i ∷ is) h = none_step guid i is (same_guid i.guid guid) (none_there guid is) (sym (cons guid i is) ∙ h)

some_step : (guid : Guid) (i : Interface) (is : List Interface) (n : ℕ) (ns : List ℕ) (b : Bool) → (handles_with guid is ≡ n ∷ ns → list_any (λ i. same_guid i.guid guid) is ≡ true)
    → cond b (i.handle ∷ handles_with guid is) (handles_with guid is) ≡ n ∷ ns → (b || list_any (λ i. same_guid i.guid guid) is) ≡ true
some_step guid i is n ns true on h = refl
some_step guid i is n ns false on h = on h

pub some_there : (guid : Guid) (is : List Interface) (n : ℕ) (ns : List ℕ) → handles_with guid is ≡ n ∷ ns → list_any (λ i. same_guid i.guid guid) is ≡ true
some_there guid [] n ns h = cc
some_there guid (i ∷ is) n ns h = some_step guid i is n ns (same_guid i.guid guid) (some_there guid is n ns) (sym (cons guid i is) ∙ h)
