-- The companions of a driver are found by its name: those that wait of the drivers that give the name, if the driver is the first of the name.
use Rattle.std.proofs.Common.{◌≡◌, ℕ, ◌==◌, Bool, true, false, ◌&&◌, cond, List, [], ◌∷◌, Option, Some, None, refl, sym, subst, ap, ◌∙◌, filter, find}
use Rattle.std.proofs.lemmas.Slice.Eq.{bytes_eq-Decides}
use Rattle.pi_base.specs.{declared.guid.Guid.Guid, Guids.same_guid}
use Rattle.mod_catalog.specs.{declared.catalogue.Catalog.Catalog, declared.catalogue.PartExpr.PartExpr, Parts.module_name}
use Rattle.boot_model.specs.DxeMachine.{DxeMachine}
use Rattle.boot_model.specs.DxeChoice.{drivers_of, waiting, is_waiting, targets, name_by, before_of, after_of, befores, afters}
use Rattle.boot_model.proofs.ListFacts.{found_passes}
use Rattle.boot_laws.proofs.PartLists.{is_equal}
use Rattle.dxe_core.specs.Order.{Drivers, befores_of, afters_of, gives, givers}
use Rattle.dxe_dispatch.specs.Choosing.{HaveWaiting, companions, is_first_named}
use Rattle.dxe_dispatch.specs.Queue.{waits_at}

filter_same : (p q : ℕ → Bool) (xs : List ℕ) → ((n : ℕ) → p n ≡ q n) → filter p xs ≡ filter q xs
filter_same p q [] h = refl
filter_same p q (x ∷ xs) h = ap (λ b. cond b (x ∷ filter p xs) (filter p xs)) (h x) ∙ ap (λ ys. cond (q x) (x ∷ ys) ys) (filter_same p q xs h)

filter_none : (xs : List ℕ) → filter (λ n. false) xs ≡ []
filter_none [] = refl
filter_none (x ∷ xs) = filter_none xs

swap_one : (p q : ℕ → Bool) (x : ℕ) (ps qs : List ℕ) (a b : Bool) → p x ≡ a → q x ≡ b → filter p qs ≡ filter q ps → filter p (cond b (x ∷ qs) qs) ≡ filter q (cond a (x ∷ ps) ps)
swap_one p q x ps qs true true e f h = ap (λ t. cond t (x ∷ filter p qs) (filter p qs)) e ∙ ap (λ ys. x ∷ ys) h ∙ sym (ap (λ t. cond t (x ∷ filter q ps) (filter q ps)) f)
swap_one p q x ps qs true false e f h = h ∙ sym (ap (λ t. cond t (x ∷ filter q ps) (filter q ps)) f)
swap_one p q x ps qs false true e f h = ap (λ t. cond t (x ∷ filter p qs) (filter p qs)) e ∙ h
swap_one p q x ps qs false false e f h = h

-- two tests in either order
filter_swap : (p q : ℕ → Bool) (xs : List ℕ) → filter p (filter q xs) ≡ filter q (filter p xs)
filter_swap p q [] = refl
filter_swap p q (x ∷ xs) = swap_one p q x (filter p xs) (filter q xs) (p x) (q x) refl refl (filter_swap p q xs)

same_test : (found : Option ℕ) (x : ℕ) → (elim found as (λ _. Bool) [ None ↦ false | Some number ↦ number == x ]) ≡ is_first_named found x
same_test None x = refl
same_test (Some number) x = refl

and_false : (b : Bool) → false ≡ (b && false)
and_false true = refl
and_false false = refl

and_true : (b : Bool) → b ≡ (b && true)
and_true true = refl
and_true false = refl

same_is : (a b : Guid) → same_guid a b ≡ true → a ≡ b
same_is a b h = ap (λ bytes. record { 0 = bytes }) ((bytes_eq-Decides a.0 b.0).0 h)

is_same : (a b : Guid) → a ≡ b → same_guid a b ≡ true
is_same a b h = (bytes_eq-Decides a.0 b.0).1 (ap (λ g. g.0) h)

-- the first of a name has that name
first_has : (catalog : Catalog) (guid : Guid) (drivers : List ℕ) (x : ℕ) (found : Option ℕ) → find (λ n. same_guid (module_name catalog n) guid) drivers ≡ found → is_first_named found x ≡ true
    → same_guid (module_name catalog x) guid ≡ true
first_has catalog guid drivers x None e h = cc
first_has catalog guid drivers x (Some number) e h =
    subst (λ n. same_guid (module_name catalog n) guid ≡ true) (is_equal number x h) (found_passes (λ n. same_guid (module_name catalog n) guid) drivers number e)

not_first : (catalog : Catalog) (guid : Guid) (drivers : List ℕ) (x : ℕ) (b : Bool) → same_guid guid (module_name catalog x) ≡ false
    → is_first_named (find (λ n. same_guid (module_name catalog n) guid) drivers) x ≡ b → b ≡ false
not_first catalog guid drivers x true other h =
    let same = first_has catalog guid drivers x _ refl h in
    let turned = is_same guid (module_name catalog x) (sym (same_is (module_name catalog x) guid same)) in
    absurd (cc)
not_first catalog guid drivers x false other h = refl

-- by whether the name that is given is the driver's
given_by : (catalog : Catalog) (drivers : List ℕ) (x : ℕ) (guid : Guid) (b : Bool) → same_guid guid (module_name catalog x) ≡ b
    → is_first_named (find (λ n. same_guid (module_name catalog n) guid) drivers) x ≡ (is_first_named (find (λ n. same_guid (module_name catalog n) (module_name catalog x)) drivers) x && b)
given_by catalog drivers x guid true h =
    ap (λ g. is_first_named (find (λ n. same_guid (module_name catalog n) g) drivers) x) (same_is guid (module_name catalog x) h)
    ∙ and_true (is_first_named (find (λ n. same_guid (module_name catalog n) (module_name catalog x)) drivers) x)
given_by catalog drivers x guid false h =
    not_first catalog guid drivers x _ h refl ∙ and_false (is_first_named (find (λ n. same_guid (module_name catalog n) (module_name catalog x)) drivers) x)

-- a driver is the target of a name
target_by : (catalog : Catalog) (m : DxeMachine) (x : ℕ) (name : Option Guid)
    → targets catalog m x name ≡ (is_first_named (find (λ n. same_guid (module_name catalog n) (module_name catalog x)) (drivers_of catalog m.discovered)) x && gives (module_name catalog x) name)
target_by catalog m x None = and_false (is_first_named (find (λ n. same_guid (module_name catalog n) (module_name catalog x)) (drivers_of catalog m.discovered)) x)
target_by catalog m x (Some guid) =
    same_test (find (λ n. same_guid (module_name catalog n) guid) (drivers_of catalog m.discovered)) x
    ∙ given_by catalog (drivers_of catalog m.discovered) x guid (same_guid guid (module_name catalog x)) refl

picked_by : (b : Bool) (g w : ℕ → Bool) (drivers : List ℕ) → filter (λ n. b && g n) (filter w drivers) ≡ cond b (filter w (filter g drivers)) []
picked_by true g w drivers = filter_swap g w drivers
picked_by false g w drivers = filter_none (filter w drivers)

companions_are : (form : PartExpr → Option Guid) (catalog : Catalog) (m : DxeMachine) (order : Drivers) (lists : Guid → List ℕ) (flags : List Bool) (x : ℕ) → HaveWaiting catalog m order flags
    → ((name : Guid) → lists name ≡ givers form catalog (drivers_of catalog m.discovered) name)
    → filter (λ n. targets catalog m x (name_by form catalog n)) (waiting catalog m) ≡ companions catalog order lists flags x
companions_are form catalog m order lists flags x have are =
    let name = module_name catalog x in
    let drivers = drivers_of catalog m.discovered in
    let first = is_first_named (find (λ n. same_guid (module_name catalog n) name) drivers) x in
    let given : ℕ → Bool = λ n. gives name (name_by form catalog n) in
    filter_same (λ n. targets catalog m x (name_by form catalog n)) (λ n. first && given n) (waiting catalog m) (λ n. target_by catalog m x (name_by form catalog n))
    ∙ picked_by first given (is_waiting m) drivers
    ∙ ap (λ xs. cond first xs []) (filter_same (is_waiting m) (waits_at flags) (filter given drivers) (λ n. sym (have.waits n)) ∙ ap (filter (waits_at flags)) (sym (are name)))
    ∙ ap (λ found. cond (is_first_named found x) (filter (waits_at flags) (lists name)) []) (sym (have.order.first_is name))

pub befores_are : (catalog : Catalog) (m : DxeMachine) (order : Drivers) (flags : List Bool) (x : ℕ) → HaveWaiting catalog m order flags
    → befores catalog m x ≡ companions catalog order (befores_of order) flags x
befores_are catalog m order flags x have = companions_are before_of catalog m order (befores_of order) flags x have have.order.befores_are

pub afters_are : (catalog : Catalog) (m : DxeMachine) (order : Drivers) (flags : List Bool) (x : ℕ) → HaveWaiting catalog m order flags
    → afters catalog m x ≡ companions catalog order (afters_of order) flags x
afters_are catalog m order flags x have = companions_are after_of catalog m order (afters_of order) flags x have have.order.afters_are
