-- Each driver of a group stands over its root, at a height of no more than the group is deep.
use Rattle.std.proofs.Common.{◌≡◌, ℕ, zero, suc, ◌≤◌, List, ◌∷◌, Option, Some, None, refl, ap, subst, ◌∙◌, length, arith, lit≤, flat_map}
use Rattle.pi_base.specs.Lists.{Each}
use Rattle.mod_catalog.specs.declared.catalogue.Catalog.{Catalog}
use Rattle.boot_model.specs.{DxeMachine.DxeMachine, DriverLicence.target_of, DriverLicence.Leads}
use Rattle.boot_model.specs.DxeChoice.{waiting, befores, afters, group_within}
use Rattle.boot_model.proofs.ListFacts.{each_more, each_append, each_flat}
use Rattle.boot_laws.proofs.Chains.{plus, plus_is, leads_on}
use Rattle.boot_laws.proofs.Groups.{IsBefore, IsAfter, are_before, are_after, before_names, after_names, eligible_names_none}
use Rattle.boot_laws.specs.DxeAim.{follows, NamesLeadToRoot}

abbrev IsWithin : Catalog → DxeMachine → ℕ → ℕ → ℕ → Type 0
IsWithin catalog m deep x z = (k : ℕ) × (k ≤ deep) × Leads (target_of catalog m) x z k

one_deeper : (catalog : Catalog) (m : DxeMachine) (deep x y : ℕ) (group : List ℕ) → target_of catalog m y ≡ Some x → Each (IsWithin catalog m deep y) group → Each (IsWithin catalog m (suc deep) x) group
one_deeper catalog m deep x y group names within =
    each_more (IsWithin catalog m deep y) (IsWithin catalog m (suc deep) x) group
    (λ z h. let one = plus_is h.0 1 in (plus h.0 1, omega (arith, h.1, one), leads_on (target_of catalog m) x y z 1 h.0 (x, names, refl) h.2)) within

all_within : (catalog : Catalog) (m : DxeMachine) (deep x : ℕ) → Each (IsWithin catalog m deep x) (group_within catalog m deep x)
all_within catalog m zero x = ((0, lit≤ tt, refl), tt)
all_within catalog m (suc deep) x =
    let group = group_within catalog m deep in
    let Within = IsWithin catalog m (suc deep) x in
    each_append Within (flat_map group (befores catalog m x)) (x ∷ flat_map group (afters catalog m x))
    (each_flat Within (IsBefore catalog m x) group (befores catalog m x) (λ y h. one_deeper catalog m deep x y (group y) (before_names catalog m x y h) (all_within catalog m deep y)) (are_before catalog m x))
    ((0, omega arith, refl), each_flat Within (IsAfter catalog m x) group (afters catalog m x) (λ y h. one_deeper catalog m deep x y (group y) (after_names catalog m x y h) (all_within catalog m deep y)) (are_after catalog m x))

-- following names comes to the root, and stays there
follow_by : (catalog : Catalog) (m : DxeMachine) (n number : ℕ) (found : Option ℕ) → target_of catalog m number ≡ found → follows catalog m (suc n) number ≡ elim found as (λ _. ℕ) [ None ↦ number | Some target ↦ follows catalog m n target ]
follow_by catalog m n number found is = ap (λ o. elim o as (λ _. ℕ) [ None ↦ number | Some target ↦ follows catalog m n target ]) is

follows_to : (catalog : Catalog) (m : DxeMachine) (root n k z : ℕ) → target_of catalog m root ≡ None → Leads (target_of catalog m) root z k → k ≤ n → follows catalog m n z ≡ root
follows_to catalog m root zero zero z none h le = h
follows_to catalog m root zero (suc k) z none h le = absurd (omega (arith, le))
follows_to catalog m root (suc n) zero z none h le = follow_by catalog m n z None (ap (target_of catalog m) h ∙ none) ∙ h
follows_to catalog m root (suc n) (suc k) z none h le = follow_by catalog m n z (Some h.0) h.1 ∙ follows_to catalog m root n k h.0 none h.2 (omega (arith, le))

pub names_lead : NamesLeadToRoot
names_lead catalog m root first rest may group =
    let deep = length (waiting catalog m) in
    let none = eligible_names_none catalog m root may.1 in
    let all : Each (IsWithin catalog m deep root) (first ∷ rest) = subst (Each (IsWithin catalog m deep root)) group (all_within catalog m deep root) in
    let one : IsWithin catalog m deep root first = all.0 in
    record { leads = λ n le. follows_to catalog m root n one.0 first none one.2 (omega (arith, one.1, le)); ends = none }
