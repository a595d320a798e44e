-- In the group of an eligible driver no driver stands twice: each companion names one driver, and the eligible one names none.
use Rattle.std.proofs.Common.{◌≡◌, ℕ, zero, suc, ◌==◌, Bool, true, false, not, List, ◌∷◌, ◌++◌, Option, Some, None, refl, sym, subst, ap, ◌∙◌, is_some, ◌≢◌, flat_map, option_and_then}
use Rattle.pi_base.specs.{declared.guid.Guid.Guid, declared.phase.Phase.TheVariants.Dxe, Lists.Each}
use Rattle.depex_code.specs.declared.depex.Depex.TheVariants as D
use Rattle.mod_catalog.specs.{declared.catalogue.Catalog.Catalog, declared.catalogue.Part.Part, declared.catalogue.PartExpr.PartExpr}
use Rattle.mod_catalog.specs.declared.catalogue.PartExpr.TheVariants as E
use Rattle.store_model.specs.HandleState.{HandleState}
use Rattle.boot_model.specs.DxeMachine.{DxeMachine}
use Rattle.mod_catalog.specs.Parts.{part_at}
use Rattle.boot_model.specs.DxeChoice.{waiting, driver_named, before_of, after_of, name_by, targets, befores, afters, group_within, lets_driver_start, driver_may_start, is_eligible_driver, is_unrequested}
use Rattle.boot_model.specs.DriverLicence.{named_by, first_of, target_of, Leads}
use Rattle.boot_model.proofs.ListFacts.{each_more, each_append, each_filter, each_flat, each_both, each_cross}
use Rattle.boot_model.proofs.Distinct.{Apart, AllApart, Distinct, distinct_append, distinct_filter, distinct_flat}
use Rattle.boot_laws.proofs.PartLists.{both_of, is_equal, passed}
use Rattle.boot_laws.proofs.Chains.{leads_on, Over, one_below, not_over}

-- no expression names by both forms
by_expression : (expr : PartExpr) → is_some (after_of expr) ≡ true → before_of expr ≡ None
by_expression E.Absent h = refl
by_expression (E.Malformed at) h = refl
by_expression (E.Held (D.Before name)) h = cc
by_expression (E.Held (D.After name)) h = refl
by_expression (E.Held (D.Expr sor node)) h = refl

before_or_after : (o : Option Part) → is_some (option_and_then (λ part. after_of part.expr) o) ≡ true → option_and_then (λ part. before_of part.expr) o ≡ None
before_or_after None h = refl
before_or_after (Some part) h = by_expression part.expr h

named_some : (f : Guid → Option ℕ) (name : Option Guid) (x : ℕ) → option_and_then f name ≡ Some x → is_some name ≡ true
named_some f None x h = cc
named_some f (Some guid) x h = refl

target_is : (o : Option ℕ) (x : ℕ) → (elim o as (λ _. Bool) [ None ↦ false | Some number ↦ number == x ]) ≡ true → o ≡ Some x
target_is None x h = cc
target_is (Some number) x h = ap Some (is_equal number x h)

-- those BEFORE a driver, and those AFTER it
abbrev pub IsBefore : Catalog → DxeMachine → ℕ → ℕ → Type 0
IsBefore catalog m x y = named_by before_of catalog m y ≡ Some x

abbrev pub IsAfter : Catalog → DxeMachine → ℕ → ℕ → Type 0
IsAfter catalog m x y = (named_by after_of catalog m y ≡ Some x) × (named_by before_of catalog m y ≡ None)

pub are_before : (catalog : Catalog) (m : DxeMachine) (x : ℕ) → Each (IsBefore catalog m x) (befores catalog m x)
are_before catalog m x = passed (IsBefore catalog m x) (λ number. targets catalog m x (name_by before_of catalog number)) (waiting catalog m) (λ n h. target_is (named_by before_of catalog m n) x h)

after_is : (catalog : Catalog) (m : DxeMachine) (x n : ℕ) → targets catalog m x (name_by after_of catalog n) ≡ true → IsAfter catalog m x n
after_is catalog m x n h =
    let e : named_by after_of catalog m n ≡ Some x = target_is (named_by after_of catalog m n) x h in
    let none : name_by before_of catalog n ≡ None = before_or_after (part_at Dxe catalog n) (named_some (driver_named catalog m) (name_by after_of catalog n) x e) in
    (e, ap (option_and_then (driver_named catalog m)) none)

pub are_after : (catalog : Catalog) (m : DxeMachine) (x : ℕ) → Each (IsAfter catalog m x) (afters catalog m x)
are_after catalog m x = passed (IsAfter catalog m x) (λ number. targets catalog m x (name_by after_of catalog number)) (waiting catalog m) (after_is catalog m x)

pub before_names : (catalog : Catalog) (m : DxeMachine) (x y : ℕ) → IsBefore catalog m x y → target_of catalog m y ≡ Some x
before_names catalog m x y h = ap (λ o. first_of o (named_by after_of catalog m y)) h

pub after_names : (catalog : Catalog) (m : DxeMachine) (x y : ℕ) → IsAfter catalog m x y → target_of catalog m y ≡ Some x
after_names catalog m x y h = ap (λ o. first_of o (named_by after_of catalog m y)) h.1 ∙ h.0

not_both : (catalog : Catalog) (m : DxeMachine) (x y z : ℕ) → IsBefore catalog m x y → IsAfter catalog m x z → y ≢ z
not_both catalog m x y z h k e = let same : named_by before_of catalog m y ≡ named_by before_of catalog m z = ap (named_by before_of catalog m) e in let none = k.1 in cc

-- each of a group stands over its driver
abbrev Stands : Catalog → DxeMachine → ℕ → ℕ → Type 0
Stands catalog m x z = (k : ℕ) × Leads (target_of catalog m) x z k

through : (catalog : Catalog) (m : DxeMachine) (x y : ℕ) (group : List ℕ) → target_of catalog m y ≡ Some x → Each (Stands catalog m y) group → Each (Stands catalog m x) group
through catalog m x y group names stand =
    each_more (Stands catalog m y) (Stands catalog m x) group (λ z h. (_, leads_on (target_of catalog m) x y z 1 h.0 (x, names, refl) h.1)) stand

pub all_stand : (catalog : Catalog) (m : DxeMachine) (deep x : ℕ) → Each (Stands catalog m x) (group_within catalog m deep x)
all_stand catalog m zero x = ((0, refl), tt)
all_stand catalog m (suc deep) x =
    let group = group_within catalog m deep in
    each_append (Stands catalog m x) (flat_map group (befores catalog m x)) (x ∷ flat_map group (afters catalog m x))
    (each_flat (Stands catalog m x) (IsBefore catalog m x) group (befores catalog m x) (λ y h. through catalog m x y (group y) (before_names catalog m x y h) (all_stand catalog m deep y)) (are_before catalog m x))
    ((0, refl), each_flat (Stands catalog m x) (IsAfter catalog m x) group (afters catalog m x) (λ y h. through catalog m x y (group y) (after_names catalog m x y h) (all_stand catalog m deep y)) (are_after catalog m x))

-- the groups of companions stand over them, at their height over the root
over_one : (catalog : Catalog) (m : DxeMachine) (deep r j x y : ℕ) → Leads (target_of catalog m) r x j → target_of catalog m y ≡ Some x → Each (Over (target_of catalog m) r (suc j) y) (group_within catalog m deep y)
over_one catalog m deep r j x y h names =
    each_more (Stands catalog m y) (Over (target_of catalog m) r (suc j) y) (group_within catalog m deep y) (λ z k. ((x, names, h), k)) (all_stand catalog m deep y)

-- the groups of companions of one kind differ
kind_differs : (catalog : Catalog) (m : DxeMachine) (deep r j x : ℕ) (ys : List ℕ) → target_of catalog m r ≡ None → Leads (target_of catalog m) r x j
    → Each (λ y. target_of catalog m y ≡ Some x) ys → Distinct ys → Each (λ y. Distinct (group_within catalog m deep y)) ys → Distinct (flat_map (group_within catalog m deep) ys)
kind_differs catalog m deep r j x ys root h names d e =
    let Belongs : ℕ → ℕ → Type 0 = Over (target_of catalog m) r (suc j) in
    distinct_flat Belongs (group_within catalog m deep) (λ a b z over other. one_below (target_of catalog m) r (suc j) a b z root over other) ys d e
    (each_more (λ y. target_of catalog m y ≡ Some x) (λ y. Each (Belongs y) (group_within catalog m deep y)) ys (λ y n. over_one catalog m deep r j x y h n) names)

-- each of them stands over one of the kind
abbrev OverKind : Catalog → DxeMachine → ℕ → ℕ → (ℕ → Type 0) → ℕ → Type 0
OverKind catalog m r j Kind z = (y : ℕ) × Kind y × Over (target_of catalog m) r (suc j) y z

over_kind : (catalog : Catalog) (m : DxeMachine) (deep r j x : ℕ) (Kind : ℕ → Type 0) (ys : List ℕ) → Leads (target_of catalog m) r x j → ((y : ℕ) → Kind y → target_of catalog m y ≡ Some x)
    → Each Kind ys → Each (OverKind catalog m r j Kind) (flat_map (group_within catalog m deep) ys)
over_kind catalog m deep r j x Kind ys h names kinds =
    each_flat (OverKind catalog m r j Kind) Kind (group_within catalog m deep) ys
    (λ y k. each_more (Over (target_of catalog m) r (suc j) y) (OverKind catalog m r j Kind) (group_within catalog m deep y) (λ z over. (y, k, over)) (over_one catalog m deep r j x y h (names y k))) kinds

kinds_apart : (catalog : Catalog) (m : DxeMachine) (r j x a b : ℕ) → target_of catalog m r ≡ None → OverKind catalog m r j (IsBefore catalog m x) a → OverKind catalog m r j (IsAfter catalog m x) b → a ≢ b
kinds_apart catalog m r j x a b root h k e =
    let moved : Over (target_of catalog m) r (suc j) k.0 a = subst (Over (target_of catalog m) r (suc j) k.0) (sym e) k.2 in
    not_both catalog m x h.0 k.0 h.1 k.1 (one_below (target_of catalog m) r (suc j) h.0 k.0 a root h.2 moved)

not_self : (catalog : Catalog) (m : DxeMachine) (r j x : ℕ) (Kind : ℕ → Type 0) (z : ℕ) → target_of catalog m r ≡ None → Leads (target_of catalog m) r x j → OverKind catalog m r j Kind z → x ≢ z
not_self catalog m r j x Kind z root h k e = not_over (target_of catalog m) r j x k.0 root h (subst (Over (target_of catalog m) r (suc j) k.0) (sym e) k.2)

-- the groups before a driver, the driver, and the groups after it
joined_differ : (catalog : Catalog) (m : DxeMachine) (r j x : ℕ) (left right : List ℕ) → target_of catalog m r ≡ None → Leads (target_of catalog m) r x j
    → Each (OverKind catalog m r j (IsBefore catalog m x)) left → Each (OverKind catalog m r j (IsAfter catalog m x)) right → Distinct left → Distinct right → Distinct (left ++ x ∷ right)
joined_differ catalog m r j x left right root h before after d e =
    let Left = OverKind catalog m r j (IsBefore catalog m x) in
    let Right = OverKind catalog m r j (IsAfter catalog m x) in
    let crossed : AllApart left right = each_cross Left Right (λ a b. a ≢ b) left right (λ a b p q. kinds_apart catalog m r j x a b root p q) before after in
    let own : Each (λ a. a ≢ x) left = each_more Left (λ a. a ≢ x) left (λ a p same. not_self catalog m r j x (IsBefore catalog m x) a root h p (sym same)) before in
    distinct_append left (x ∷ right) d (each_more Right (λ b. x ≢ b) right (λ b q. not_self catalog m r j x (IsAfter catalog m x) b root h q) after, e)
    (each_both (λ a. a ≢ x) (λ a. Apart a right) left own crossed)

group_differs : (catalog : Catalog) (m : DxeMachine) (deep r j x : ℕ) → Distinct (waiting catalog m) → target_of catalog m r ≡ None → Leads (target_of catalog m) r x j → Distinct (group_within catalog m deep x)
group_differs catalog m zero r j x w root h = (tt, tt)
group_differs catalog m (suc deep) r j x w root h =
    let group = group_within catalog m deep in
    let before = are_before catalog m x in
    let after = are_after catalog m x in
    let Names : ℕ → Type 0 = λ y. target_of catalog m y ≡ Some x in
    let names_before = each_more (IsBefore catalog m x) Names (befores catalog m x) (before_names catalog m x) before in
    let names_after = each_more (IsAfter catalog m x) Names (afters catalog m x) (after_names catalog m x) after in
    let inner : (y : ℕ) → Names y → Distinct (group y) = λ y n. group_differs catalog m deep r (suc j) y w root (x, n, h) in
    joined_differ catalog m r j x (flat_map group (befores catalog m x)) (flat_map group (afters catalog m x)) root h
    (over_kind catalog m deep r j x (IsBefore catalog m x) (befores catalog m x) h (before_names catalog m x) before)
    (over_kind catalog m deep r j x (IsAfter catalog m x) (afters catalog m x) h (after_names catalog m x) after)
    (kind_differs catalog m deep r j x (befores catalog m x) root h names_before (distinct_filter _ (waiting catalog m) w) (each_more Names (λ y. Distinct (group y)) (befores catalog m x) inner names_before))
    (kind_differs catalog m deep r j x (afters catalog m x) root h names_after (distinct_filter _ (waiting catalog m) w) (each_more Names (λ y. Distinct (group y)) (afters catalog m x) inner names_after))

-- what an expression that lets a driver start names
no_name_in : (h : HandleState) (expr : PartExpr) → lets_driver_start h expr ≡ true → (before_of expr ≡ None) × (after_of expr ≡ None)
no_name_in h E.Absent may = (refl, refl)
no_name_in h (E.Malformed at) may = cc
no_name_in h (E.Held (D.Before name)) may = cc
no_name_in h (E.Held (D.After name)) may = cc
no_name_in h (E.Held (D.Expr sor node)) may = (refl, refl)

pub no_name : (h : HandleState) (o : Option Part) → driver_may_start h o ≡ true → (option_and_then (λ part. before_of part.expr) o ≡ None) × (option_and_then (λ part. after_of part.expr) o ≡ None)
no_name h None may = cc
no_name h (Some part) may = no_name_in h part.expr may

pub eligible_names_none : (catalog : Catalog) (m : DxeMachine) (number : ℕ) → is_eligible_driver catalog m number ≡ true → target_of catalog m number ≡ None
eligible_names_none catalog m number eligible =
    let may = both_of (not (is_unrequested catalog m number)) (driver_may_start m.handles (part_at Dxe catalog number)) eligible in
    let none = no_name m.handles (part_at Dxe catalog number) may.1 in
    let before : named_by before_of catalog m number ≡ None = ap (option_and_then (driver_named catalog m)) none.0 in
    let after : named_by after_of catalog m number ≡ None = ap (option_and_then (driver_named catalog m)) none.1 in
    ap (λ o. first_of o (named_by after_of catalog m number)) before ∙ after

pub distinct_group : (catalog : Catalog) (m : DxeMachine) (deep number : ℕ) → Distinct (waiting catalog m) → is_eligible_driver catalog m number ≡ true → Distinct (group_within catalog m deep number)
distinct_group catalog m deep number w eligible = group_differs catalog m deep number 0 number w (eligible_names_none catalog m number eligible) refl

-- what holds of each driver that waits holds of each of a group
pub each_of_group : (P : ℕ → Type 0) (catalog : Catalog) (m : DxeMachine) (deep x : ℕ) → Each P (waiting catalog m) → P x → Each P (group_within catalog m deep x)
each_of_group P catalog m zero x w p = (p, tt)
each_of_group P catalog m (suc deep) x w p =
    let group = group_within catalog m deep in
    each_append P (flat_map group (befores catalog m x)) (x ∷ flat_map group (afters catalog m x))
    (each_flat P P group (befores catalog m x) (λ y q. each_of_group P catalog m deep y w q) (each_filter P _ (waiting catalog m) w))
    (p, each_flat P P group (afters catalog m x) (λ y q. each_of_group P catalog m deep y w q) (each_filter P _ (waiting catalog m) w))
