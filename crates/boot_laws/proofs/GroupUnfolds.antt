-- Groups unfold: a chain of companions over an eligible driver is no longer than the drivers that wait, so the depth that the definition counts always suffices.
use Rattle.std.proofs.Common.{◌≡◌, ℕ, zero, suc, ◌+◌, ◌≤◌, ◌==◌, true, false, ◌||◌, List, [], ◌∷◌, ◌++◌, None, refl, sym, subst, ap, ◌∙◌, length, arith, lit≤, inl, inr, ◌≢◌, flat_map}
use Rattle.std.proofs.lemmas.Bool.Decides.{nat_tests}
use Rattle.pi_base.specs.Lists.{Each}
use Rattle.mod_catalog.specs.{declared.catalogue.Catalog.Catalog, Parts.has_number}
use Rattle.boot_model.specs.{Licence.AllDiffer, DxeMachine.DxeMachine, DriverLicence.target_of, DriverLicence.Leads}
use Rattle.boot_model.specs.DxeChoice.{waiting, befores, afters, group_within, companion_group}
use Rattle.boot_laws.specs.GroupUnfolds.{StandsOver, IsOver, GroupsUnfold, GroupsAreSmall}
use Rattle.boot_model.proofs.ListFacts.{each_more, each_both, each_filter, each_has}
use Rattle.boot_model.proofs.Distinct.{Distinct, all_differ, all_distinct, distinct_filter}
use Rattle.boot_laws.proofs.{PartLists.distinct_of, PartLists.drivers_are, Chains.one_height}
use Rattle.boot_laws.proofs.Counting.{missing, In, fewer}
use Rattle.boot_laws.proofs.Groups.{are_before, are_after, IsBefore, IsAfter, before_names, after_names, eligible_names_none, each_of_group, distinct_group}

leads_by : (catalog : Catalog) (m : DxeMachine) (r k x : ℕ) → StandsOver catalog m r k x → Leads (target_of catalog m) r x k
leads_by catalog m r zero x t = t
leads_by catalog m r (suc k) x t = (t.0, t.1, leads_by catalog m r k t.0 t.3)

-- the drivers from x down to r
abbrev path : (catalog : Catalog) (m : DxeMachine) (r k x : ℕ) → StandsOver catalog m r k x → List ℕ
path catalog m r zero x t = x ∷ []
path catalog m r (suc k) x t = x ∷ path catalog m r k t.0 t.3

path_len : (catalog : Catalog) (m : DxeMachine) (r k x : ℕ) (t : StandsOver catalog m r k x) → length (path catalog m r k x t) ≡ k + 1
path_len catalog m r zero x t = refl
path_len catalog m r (suc k) x t = let on = path_len catalog m r k t.0 t.3 in omega (arith, on)

-- each of them waits
path_waits : (catalog : Catalog) (m : DxeMachine) (r k x : ℕ) (t : StandsOver catalog m r k x) → has_number (waiting catalog m) r ≡ true → Each (λ z. has_number (waiting catalog m) z ≡ true) (path catalog m r k x t)
path_waits catalog m r zero x t w = (subst (λ z. has_number (waiting catalog m) z ≡ true) (sym t) w, tt)
path_waits catalog m r (suc k) x t w = (t.2, path_waits catalog m r k t.0 t.3 w)

-- each stands at a height of at most k
abbrev Below : Catalog → DxeMachine → ℕ → ℕ → ℕ → Type 0
Below catalog m r k z = (j : ℕ) × (j ≤ k) × Leads (target_of catalog m) r z j

path_below : (catalog : Catalog) (m : DxeMachine) (r k x : ℕ) (t : StandsOver catalog m r k x) → Each (Below catalog m r k) (path catalog m r k x t)
path_below catalog m r zero x t = ((0, omega arith, t), tt)
path_below catalog m r (suc k) x t = (
  (suc k, omega arith, leads_by catalog m r (suc k) x t),
  each_more (Below catalog m r k) (Below catalog m r (suc k)) (path catalog m r k t.0 t.3) (λ z b. (b.0, omega (arith, b.1), b.2)) (path_below catalog m r k t.0 t.3),
)

-- one that stands higher is none of them
higher : (catalog : Catalog) (m : DxeMachine) (r k x z : ℕ) → target_of catalog m r ≡ None → Leads (target_of catalog m) r x (suc k) → Below catalog m r k z → x ≢ z
higher catalog m r k x z root h b same =
    let moved : Leads (target_of catalog m) r x b.0 = subst (λ n. Leads (target_of catalog m) r n b.0) (sym same) b.2 in
    let even = one_height (target_of catalog m) r x (suc k) b.0 root h moved in
    omega (arith, even, b.1)

path_differs : (catalog : Catalog) (m : DxeMachine) (r k x : ℕ) (t : StandsOver catalog m r k x) → target_of catalog m r ≡ None → Distinct (path catalog m r k x t)
path_differs catalog m r zero x t root = (tt, tt)
path_differs catalog m r (suc k) x t root = (
  each_more (Below catalog m r k) (λ z. x ≢ z) (path catalog m r k t.0 t.3) (λ z b. higher catalog m r k x z root (leads_by catalog m r (suc k) x t) b) (path_below catalog m r k t.0 t.3),
  path_differs catalog m r k t.0 t.3 root,
)

none_missing : (ys : List ℕ) → missing [] ys ≤ length ys
none_missing [] = lit≤ tt
none_missing (y ∷ ys) = let on = none_missing ys in omega (arith, on)

-- numbers that differ and are all among others are no more than these
no_more_than : (xs ys : List ℕ) → AllDiffer xs → Each (λ x. In x ys) xs → length xs + missing xs ys ≤ length ys
no_more_than [] ys d e = let on = none_missing ys in omega (arith, on)
no_more_than (x ∷ xs) ys d e =
    let less = fewer x xs ys d.0 e.0 in
    let on = no_more_than xs ys d.1 e.1 in
    omega (arith, less, on)

is_in : (x : ℕ) (ys : List ℕ) → has_number ys x ≡ true → In x ys
is_in x [] h = cc
is_in x (y ∷ ys) h = elim (y == x) as (λ b. (y == x) ≡ b → In x (y ∷ ys)) [
  | true ↦ λ e. inl (grind (arith, nat_tests))
  | false ↦ λ e. inr (is_in x ys (subst (λ b. (b || has_number ys x) ≡ true) e h))
] refl

-- no more names lead to the root than drivers wait
few : (catalog : Catalog) (m : DxeMachine) (r k x : ℕ) → StandsOver catalog m r k x → target_of catalog m r ≡ None → has_number (waiting catalog m) r ≡ true → k + 1 ≤ length (waiting catalog m)
few catalog m r k x t root w =
    let these = path catalog m r k x t in
    let among = each_more (λ z. has_number (waiting catalog m) z ≡ true) (λ z. In z (waiting catalog m)) these (λ z h. is_in z (waiting catalog m) h) (path_waits catalog m r k x t w) in
    let most = no_more_than these (waiting catalog m) (all_differ these (path_differs catalog m r k x t root)) among in
    let long = path_len catalog m r k x t in
    omega (arith, most, long)

-- the companions of one that stands over the root stand one higher
abbrev Higher : Catalog → DxeMachine → ℕ → ℕ → ℕ → Type 0
Higher catalog m r k y = StandsOver catalog m r (suc k) y

pub befores_higher : (catalog : Catalog) (m : DxeMachine) (r k x : ℕ) → StandsOver catalog m r k x → Each (Higher catalog m r k) (befores catalog m x)
befores_higher catalog m r k x t =
    let waits : Each (λ z. has_number (waiting catalog m) z ≡ true) (befores catalog m x) = each_filter (λ z. has_number (waiting catalog m) z ≡ true) _ (waiting catalog m) (each_has (waiting catalog m)) in
    let both = each_both (IsBefore catalog m x) (λ z. has_number (waiting catalog m) z ≡ true) (befores catalog m x) (are_before catalog m x) waits in
    each_more (λ z. IsBefore catalog m x z × (has_number (waiting catalog m) z ≡ true)) (Higher catalog m r k) (befores catalog m x) (λ z h. (x, before_names catalog m x z h.0, h.1, t)) both

pub afters_higher : (catalog : Catalog) (m : DxeMachine) (r k x : ℕ) → StandsOver catalog m r k x → Each (Higher catalog m r k) (afters catalog m x)
afters_higher catalog m r k x t =
    let waits : Each (λ z. has_number (waiting catalog m) z ≡ true) (afters catalog m x) = each_filter (λ z. has_number (waiting catalog m) z ≡ true) _ (waiting catalog m) (each_has (waiting catalog m)) in
    let both = each_both (IsAfter catalog m x) (λ z. has_number (waiting catalog m) z ≡ true) (afters catalog m x) (are_after catalog m x) waits in
    each_more (λ z. IsAfter catalog m x z × (has_number (waiting catalog m) z ≡ true)) (Higher catalog m r k) (afters catalog m x) (λ z h. (x, after_names catalog m x z h.0, h.1, t)) both

flat_same : (f g : ℕ → List ℕ) (xs : List ℕ) → Each (λ x. f x ≡ g x) xs → flat_map f xs ≡ flat_map g xs
flat_same f g [] e = refl
flat_same f g (x ∷ xs) e = ap (λ l. l ++ flat_map f xs) e.0 ∙ ap (λ l. g x ++ l) (flat_same f g xs e.1)

none_of : (P : ℕ → Type 0) (xs : List ℕ) → ((x : ℕ) → P x → ⊥) → Each P xs → xs ≡ []
none_of P [] never e = refl
none_of P (x ∷ xs) never e = absurd (never x e.0)

-- a depth that suffices is as good as one more
stable : (catalog : Catalog) (m : DxeMachine) (r deep k x : ℕ) → target_of catalog m r ≡ None → has_number (waiting catalog m) r ≡ true → StandsOver catalog m r k x → length (waiting catalog m) ≤ k + 1 + deep
    → group_within catalog m deep x ≡ group_within catalog m (suc deep) x
stable catalog m r zero k x root w t le =
    let never : (y : ℕ) → Higher catalog m r k y → ⊥ = λ y h. let most = few catalog m r (suc k) y h root w in omega (arith, most, le) in
    let before = none_of (Higher catalog m r k) (befores catalog m x) never (befores_higher catalog m r k x t) in
    let after = none_of (Higher catalog m r k) (afters catalog m x) never (afters_higher catalog m r k x t) in
    sym (ap (λ l. flat_map (group_within catalog m 0) l ++ x ∷ flat_map (group_within catalog m 0) (afters catalog m x)) before ∙ ap (λ l. x ∷ flat_map (group_within catalog m 0) l) after)
stable catalog m r (suc deep) k x root w t le =
    let f = group_within catalog m deep in
    let g = group_within catalog m (suc deep) in
    let same : (y : ℕ) → Higher catalog m r k y → f y ≡ g y = λ y h. stable catalog m r deep (suc k) y root w h (omega (arith, le)) in
    let before = flat_same f g (befores catalog m x) (each_more (Higher catalog m r k) (λ y. f y ≡ g y) (befores catalog m x) same (befores_higher catalog m r k x t)) in
    let after = flat_same f g (afters catalog m x) (each_more (Higher catalog m r k) (λ y. f y ≡ g y) (afters catalog m x) same (afters_higher catalog m r k x t)) in
    ap (λ l. l ++ x ∷ flat_map f (afters catalog m x)) before ∙ ap (λ l. flat_map g (befores catalog m x) ++ x ∷ l) after

pub groups_unfold : GroupsUnfold
groups_unfold catalog m root x is over = record {
  group = stable catalog m root (length (waiting catalog m)) over.0 x (eligible_names_none catalog m root is.eligible) is.waits over.1 (omega arith);
  befores = each_more (Higher catalog m root over.0) (IsOver catalog m root) (befores catalog m x) (λ y h. (suc over.0, h)) (befores_higher catalog m root over.0 x over.1);
  afters = each_more (Higher catalog m root over.0) (IsOver catalog m root) (afters catalog m x) (λ y h. (suc over.0, h)) (afters_higher catalog m root over.0 x over.1);
}

-- a group has no more drivers than wait
pub groups_are_small : GroupsAreSmall
groups_are_small catalog m root d is =
    let these = companion_group catalog m root in
    let deep = length (waiting catalog m) in
    let order = distinct_of catalog _ (drivers_are catalog) m.discovered (all_distinct m.discovered d) in
    let differ = distinct_group catalog m deep root (distinct_filter _ _ order) is.eligible in
    let waits = each_of_group (λ z. has_number (waiting catalog m) z ≡ true) catalog m deep root (each_has (waiting catalog m)) is.waits in
    let among = each_more (λ z. has_number (waiting catalog m) z ≡ true) (λ z. In z (waiting catalog m)) these (λ z h. is_in z (waiting catalog m) h) waits in
    let most = no_more_than these (waiting catalog m) (all_differ these differ) among in
    record { few = omega (arith, most); differ = all_differ these differ; wait = waits }
