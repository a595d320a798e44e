-- The services keep what holds of the handles, and the first interface of a protocol is on the lowest handle.
use Rattle.std.proofs.Common.{option_map, ◌≡◌, ℕ, ◌+◌, ◌≤◌, ◌<◌, ◌==◌, Bool, true, false, ◌||◌, ◌&&◌, not, cond, List, [], ◌∷◌, Option, Some, None, refl, sym, subst, ap, ◌∙◌, arith, nat_lt, Decides, Ok, Err, find, bytes_eq}
use Rattle.std.specs.List.{list_any}
use Rattle.std.proofs.{lemmas.Bool.Decides.nat_tests, lemmas.Slice.Eq.bytes_eq-Decides}
use Rattle.pi_base.specs.{declared.word.Word.TheVariants.InvalidParameter, declared.word.Word.TheVariants.NotFound, declared.guid.Guid.Guid}
use Rattle.pi_base.specs.{Guids.same_guid, Lists.Each, Lists.Ordered}
use Rattle.pi_base.proofs.ListFacts.{each_more, each_append, ordered_append}
use Rattle.store_model.specs.HandleState.{Interface, HandleState, no_handles, is_live, is_on, is_on_with, placed, install_new, install_on, install_interface, with_value, without, change_of, reinstall_interface, uninstall_interface}
use Rattle.store_model.specs.HandleFacts.{IsNotBehind, AreOfOthers, WasMade, IsHandleState, Keeps, KeepHandleFacts, LocatedIsLowest}

neither : (a b : Bool) → (a || b) ≡ false → (a ≡ false) × (b ≡ false)
neither true b h = cc
neither false b h = (refl, h)

turned : (x y : ℕ) → (x == y) ≡ (y == x)
turned x y = grind (arith, nat_tests)

first_is : IsHandleState no_handles
first_is = record { in_order = tt; once = tt; made = tt }

-- a new interface put in its place
each_placed : (P : Interface → Type 0) (new : Interface) (is : List Interface) → P new → Each P is → Each P (placed new is)
each_placed P new [] n e = (n, tt)
each_placed P new (i ∷ is) n e = elim (nat_lt new.handle i.handle) as (λ b. Each P (cond b (new ∷ i ∷ is) (i ∷ placed new is))) [
  | true ↦ (n, e)
  | false ↦ (e.0, each_placed P new is n e.1)
]

order_placed : (new : Interface) (is : List Interface) → Ordered IsNotBehind is → Ordered IsNotBehind (placed new is)
order_placed new [] o = (tt, tt)
order_placed new (i ∷ is) o = elim (nat_lt new.handle i.handle) as (λ b. nat_lt new.handle i.handle ≡ b → Ordered IsNotBehind (cond b (new ∷ i ∷ is) (i ∷ placed new is))) [
  | true ↦ λ e. let less : new.handle < i.handle = grind (arith, nat_tests) in
      ((omega (arith, less), each_more (IsNotBehind i) (IsNotBehind new) is (λ x h. omega (arith, less, h)) o.0), o)
  | false ↦ λ e. let le : i.handle ≤ new.handle = grind (arith, nat_tests) in
      (each_placed (IsNotBehind i) new is le o.0, order_placed new is o.1)
] refl

once_placed : (new : Interface) (is : List Interface) → Each (λ i. AreOfOthers new i) is → Ordered AreOfOthers is → Ordered AreOfOthers (placed new is)
once_placed new [] n o = (tt, tt)
once_placed new (i ∷ is) n o = elim (nat_lt new.handle i.handle) as (λ b. Ordered AreOfOthers (cond b (new ∷ i ∷ is) (i ∷ placed new is))) [
  | true ↦ ((n.0, n.1), o)
  | false ↦ (each_placed (λ x. AreOfOthers i x) new is (n.0.1, n.0.0) o.0, once_placed new is n.1 o.1)
]

both_ways : (a b : Bool) (P Q : Type 0) → (P → Q) → (Q → P) → Decides a P → Decides b Q → a ≡ b
both_ways true true P Q f g d e = refl
both_ways true false P Q f g d e = sym (e.1 (f (d.0 refl)))
both_ways false true P Q f g d e = d.1 (g (e.0 refl))
both_ways false false P Q f g d e = refl

guid_turned : (a b : Guid) → same_guid a b ≡ same_guid b a
guid_turned a b = both_ways (bytes_eq a.0 b.0) (bytes_eq b.0 a.0) (a.0 ≡ b.0) (b.0 ≡ a.0) (λ e. sym e) (λ e. sym e) (bytes_eq-Decides a.0 b.0) (bytes_eq-Decides b.0 a.0)

on_turned : (a b : Interface) → is_on a.handle a.guid b ≡ is_on b.handle b.guid a
on_turned a b = ap (λ t. t && same_guid b.guid a.guid) (turned b.handle a.handle) ∙ ap (λ t. (a.handle == b.handle) && t) (guid_turned b.guid a.guid)

other_by : (a b : Interface) → is_on a.handle a.guid b ≡ false → AreOfOthers a b
other_by a b h = (sym (on_turned a b) ∙ h, h)

none_on : (test : Interface → Bool) (is : List Interface) → list_any test is ≡ false → Each (λ i. test i ≡ false) is
none_on test [] h = tt
none_on test (i ∷ is) h = let both = neither (test i) (list_any test is) h in (both.0, none_on test is both.1)

any_made : (made handle : ℕ) (is : List Interface) → Each (WasMade made) is → list_any (λ i. i.handle == handle) is ≡ true → (1 ≤ handle) × (handle ≤ made)
any_made made handle [] e h = cc
any_made made handle (i ∷ is) e h = elim (i.handle == handle) as (λ b. (i.handle == handle) ≡ b → (1 ≤ handle) × (handle ≤ made)) [
  | true ↦ λ t. let same : i.handle ≡ handle = grind (arith, nat_tests) in (omega (arith, same, e.0.0), omega (arith, same, e.0.1))
  | false ↦ λ t. any_made made handle is e.1 (subst (λ b. (b || list_any (λ i. i.handle == handle) is) ≡ true) t h)
] refl

-- a new handle
fresh : (made : ℕ) (guid : Guid) (value : ℕ) (i : Interface) → WasMade made i → is_on (made + 1) guid i ≡ false
fresh made guid value i w = let e : (i.handle == made + 1) ≡ false = grind (arith, nat_tests, w.1) in ap (λ t. t && same_guid i.guid guid) e

new_keeps : (h : HandleState) (guid : Guid) (value : ℕ) → IsHandleState h → Keeps (install_new h guid value)
new_keeps h guid value k =
    let new : Interface = record { handle = h.made + 1; guid = guid; value = value } in
    record {
      in_order = ordered_append IsNotBehind h.interfaces (new ∷ []) k.in_order (tt, tt) (each_more (WasMade h.made) (λ i. Each (IsNotBehind i) (new ∷ [])) h.interfaces (λ i w. (omega (arith, w.1), tt)) k.made);
      once = ordered_append AreOfOthers h.interfaces (new ∷ []) k.once (tt, tt)
          (each_more (WasMade h.made) (λ i. Each (AreOfOthers i) (new ∷ [])) h.interfaces (λ i w. let apart = fresh h.made guid value i w in ((apart, on_turned i new ∙ apart), tt)) k.made);
      made = each_append (WasMade (h.made + 1)) h.interfaces (new ∷ []) (each_more (WasMade h.made) (WasMade (h.made + 1)) h.interfaces (λ i w. (w.0, omega (arith, w.1))) k.made) ((omega arith, omega arith), tt);
    }

-- an interface on a handle that is there
placed_keeps : (h : HandleState) (new : Interface) → IsHandleState h → list_any (λ i. i.handle == new.handle) h.interfaces ≡ true → list_any (is_on new.handle new.guid) h.interfaces ≡ false
    → IsHandleState (record h { interfaces = placed new h.interfaces })
placed_keeps h new k live none =
    record {
      in_order = order_placed new h.interfaces k.in_order;
      once = once_placed new h.interfaces (each_more (λ i. is_on new.handle new.guid i ≡ false) (λ i. AreOfOthers new i) h.interfaces (λ i e. other_by new i e) (none_on (is_on new.handle new.guid) h.interfaces none)) k.once;
      made = each_placed (WasMade h.made) new h.interfaces (any_made h.made new.handle h.interfaces k.made live) k.made;
    }

on_keeps : (h : HandleState) (handle : ℕ) (guid : Guid) (value : ℕ) → IsHandleState h → Keeps (install_on h handle guid value)
on_keeps h handle guid value k =
    elim (is_live h handle) as (λ live. is_live h handle ≡ live → Keeps (cond (not live || list_any (is_on handle guid) h.interfaces) (Err InvalidParameter)
    (Ok (handle, record h { interfaces = placed (record { handle = handle; guid = guid; value = value }) h.interfaces })))) [
      | false ↦ λ e. tt
      | true ↦ λ live. elim (list_any (is_on handle guid) h.interfaces) as (λ any. list_any (is_on handle guid) h.interfaces ≡ any → Keeps (cond any (Err InvalidParameter)
          (Ok (handle, record h { interfaces = placed (record { handle = handle; guid = guid; value = value }) h.interfaces })))) [
            | true ↦ λ e. tt
            | false ↦ λ none. placed_keeps h (record { handle = handle; guid = guid; value = value }) k live none
          ] refl
    ] refl

-- the lists of a change: without one, or with another value
each_without : (P : Interface → Type 0) (test : Interface → Bool) (is : List Interface) → Each P is → Each P (without test is)
each_without P test [] e = tt
each_without P test (i ∷ is) e = elim (test i) as (λ b. Each P (cond b is (i ∷ without test is))) [ true ↦ e.1 | false ↦ (e.0, each_without P test is e.1) ]

ordered_without : (R : Interface → Interface → Type 0) (test : Interface → Bool) (is : List Interface) → Ordered R is → Ordered R (without test is)
ordered_without R test [] o = tt
ordered_without R test (i ∷ is) o = elim (test i) as (λ b. Ordered R (cond b is (i ∷ without test is))) [ true ↦ o.1 | false ↦ (each_without (R i) test is o.0, ordered_without R test is o.1) ]

each_with : (P : Interface → Type 0) (test : Interface → Bool) (value : ℕ) (is : List Interface) → ((i : Interface) → P i → P (record i { value = value })) → Each P is → Each P (with_value test value is)
each_with P test value [] f e = tt
each_with P test value (i ∷ is) f e = elim (test i) as (λ b. Each P (cond b (record i { value = value } ∷ is) (i ∷ with_value test value is))) [ true ↦ (f i e.0, e.1) | false ↦ (e.0, each_with P test value is f e.1) ]

order_with : (test : Interface → Bool) (value : ℕ) (is : List Interface) → Ordered IsNotBehind is → Ordered IsNotBehind (with_value test value is)
order_with test value [] o = tt
order_with test value (i ∷ is) o =
    elim (test i) as (λ b. Ordered IsNotBehind (cond b (record i { value = value } ∷ is) (i ∷ with_value test value is))) [ true ↦ (o.0, o.1) | false ↦ (each_with (IsNotBehind i) test value is (λ j p. p) o.0, order_with test value is o.1) ]

once_with : (test : Interface → Bool) (value : ℕ) (is : List Interface) → Ordered AreOfOthers is → Ordered AreOfOthers (with_value test value is)
once_with test value [] o = tt
once_with test value (i ∷ is) o =
    elim (test i) as (λ b. Ordered AreOfOthers (cond b (record i { value = value } ∷ is) (i ∷ with_value test value is))) [ true ↦ (o.0, o.1) | false ↦ (each_with (AreOfOthers i) test value is (λ j p. p) o.0, once_with test value is o.1) ]

change_keeps : (h : HandleState) (handle : ℕ) (guid : Guid) (value : ℕ) (changed : List Interface) → IsHandleState (record h { interfaces = changed }) → Keeps (change_of h handle guid value changed)
change_keeps h handle guid value changed k =
    elim (is_live h handle) as (λ live. Keeps (cond (not live) (Err InvalidParameter) (cond (list_any (is_on_with handle guid value) h.interfaces) (Ok (tt {0}, record h { interfaces = changed })) (Err NotFound)))) [
      | false ↦ tt
      | true ↦ elim (list_any (is_on_with handle guid value) h.interfaces) as (λ any. Keeps (cond any (Ok (tt {0}, record h { interfaces = changed })) (Err NotFound))) [ true ↦ k | false ↦ tt ]
    ]

reinstall_keeps : (h : HandleState) (handle : ℕ) (guid : Guid) (old new : ℕ) → IsHandleState h → Keeps (reinstall_interface h handle guid old new)
reinstall_keeps h handle guid old new k =
    let test = is_on_with handle guid old in
    change_keeps h handle guid old (with_value test new h.interfaces)
    (record { in_order = order_with test new h.interfaces k.in_order; once = once_with test new h.interfaces k.once; made = each_with (WasMade h.made) test new h.interfaces (λ i w. w) k.made })

uninstall_keeps : (h : HandleState) (handle : ℕ) (guid : Guid) (value : ℕ) → IsHandleState h → Keeps (uninstall_interface h handle guid value)
uninstall_keeps h handle guid value k =
    let test = is_on_with handle guid value in
    change_keeps h handle guid value (without test h.interfaces)
    (record { in_order = ordered_without IsNotBehind test h.interfaces k.in_order; once = ordered_without AreOfOthers test h.interfaces k.once; made = each_without (WasMade h.made) test h.interfaces k.made })

-- the first interface of a protocol is on the lowest handle
lowest : (guid : Guid) (is : List Interface) (found : Interface) → Ordered IsNotBehind is → find (λ i. same_guid i.guid guid) is ≡ Some found → Each (λ j. same_guid j.guid guid ≡ true → found.handle ≤ j.handle) is
lowest guid [] found o h = tt
lowest guid (i ∷ is) found o h = elim (same_guid i.guid guid) as (λ b. same_guid i.guid guid ≡ b → Each (λ j. same_guid j.guid guid ≡ true → found.handle ≤ j.handle) (i ∷ is)) [
  | true ↦ λ e.
      let same : Some i ≡ Some found = subst (λ b. cond b (Some i) (find (λ i. same_guid i.guid guid) is) ≡ Some found) e h in
      let is_i : i ≡ found = some_is i found same in
      subst (λ f. Each (λ j. same_guid j.guid guid ≡ true → f.handle ≤ j.handle) (i ∷ is)) is_i ((λ _. omega arith), each_more (IsNotBehind i) (λ j. same_guid j.guid guid ≡ true → i.handle ≤ j.handle) is (λ j p _. p) o.0)
  | false ↦ λ e.
      let later : find (λ i. same_guid i.guid guid) is ≡ Some found = subst (λ b. cond b (Some i) (find (λ i. same_guid i.guid guid) is) ≡ Some found) e h in
      ((λ t. absurd (no_way (same_guid i.guid guid) e t)), lowest guid is found o.1 later)
] refl
  where
    some_is : (a b : Interface) → Some a ≡ Some b → a ≡ b
    some_is a b e = cc

    no_way : (b : Bool) → b ≡ false → b ≡ true → ⊥
    no_way b e t = cc

install_keeps : (h : HandleState) (handle : Option ℕ) (guid : Guid) (value : ℕ) → IsHandleState h → Keeps (install_interface h handle guid value)
install_keeps h None guid value k = new_keeps h guid value k
install_keeps h (Some handle) guid value k = on_keeps h handle guid value k

pub facts_are_kept : KeepHandleFacts
facts_are_kept = record { first = first_is; install = install_keeps; reinstall = reinstall_keeps; uninstall = uninstall_keeps }

-- the interface that locate answers
abbrev told : Interface → ℕ × ℕ
told i = (i.handle, i.value)

some_pair : (a b : ℕ × ℕ) → Some a ≡ Some b → a ≡ b
some_pair a b e = cc

found_handle : (o : Option Interface) (handle value : ℕ) → option_map told o ≡ Some (handle, value) → (i : Interface) × (o ≡ Some i) × (i.handle ≡ handle)
found_handle None handle value h = cc
found_handle (Some i) handle value h = let same = some_pair (told i) (handle, value) h in (i, refl, ap (λ p. p.0) same)

pub located_is_lowest : LocatedIsLowest
located_is_lowest h guid handle value k located =
    let found = found_handle (find (λ i. same_guid i.guid guid) h.interfaces) handle value located in
    subst (λ n. Each (λ j. same_guid j.guid guid ≡ true → n ≤ j.handle) h.interfaces) found.2 (lowest guid h.interfaces found.0 k.in_order found.1)
