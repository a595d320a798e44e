-- What is eligible in an index that stands for a machine is what is eligible in the machine.
use Rattle.std.proofs.Common.{◌≡◌, ℕ, zero, suc, Bool, true, false, not, ◌&&◌, ◌||◌, cond, List, [], ◌∷◌, ◌++◌, take, drop, Option, Some, None, ap, refl, ◌∙◌, inl, inr, append-nil, find, filter, is_some, ◌⊎◌, ◌==◌}
use Rattle.std.proofs.lemmas.Bool.Decides.{Decides-eqb}
use Rattle.std.specs.List.{list_all}
use Rattle.pi_base.specs.{declared.guid.Guid.Guid, declared.phase.Phase.Phase}
use Rattle.pi_base.specs.{declared.phase.Phase.TheVariants.Pei, declared.phase.Phase.TheVariants.Dxe, GuidMap.value_of, Lists.EachPair}
use Rattle.boot_model.specs.{declared.known_guid.TheConstants.ARCHITECTURAL, DxeMachine.DxeMachine, PeiChoice.rotated, PeiChoice.next_peim}
use Rattle.mod_catalog.specs.{declared.catalogue.Catalog.Catalog, declared.catalogue.Part.Part, declared.catalogue.PartExpr.PartExpr}
use Rattle.mod_catalog.specs.declared.catalogue.PartExpr.TheVariants as E
use Rattle.boot_model.specs.DxeChoice.{is_waiting, is_unrequested, is_eligible_driver, first_eligible, driver_may_start, lets_driver_start}
use Rattle.boot_model.specs.Eligible.{depex_holds, lets_start, may_start, may_start_again, is_eligible}
use Rattle.store_model.specs.{HandleState.HandleState, HandleState.has_protocol, Service.Install.has_ppi, StoreState.StoreState}
use Rattle.mod_catalog.specs.Parts.{has_number, part_at}
use Rattle.boot_model.specs.PeiMachine.{PeiMachine}
use Rattle.wait_index.specs.{declared.verdict.Verdict.TheVariants.Yes, declared.index.WaitIndex.WaitIndex}
use Rattle.wait_index.specs.Dispatch.{StandsForPei, StandsForDxe}
use Rattle.wait_index.specs.Index.{IsIndex, order_in, waits_in, is_open_in, again_in, has_in, is_eligible_in}
use Rattle.wait_index.specs.Verdict.{verdict_by, expression_verdict, verdict_in, verdict_of, lets, has_all, holds_by}
use Rattle.wait_index.proofs.Truth.{verdict_same}

find_within : (test other : ℕ → Bool) (xs : List ℕ) → ((x : ℕ) → has_number xs x ≡ true → test x ≡ other x) → find test xs ≡ find other xs
find_within test other [] h = refl
find_within test other (x ∷ xs) h =
    ap (λ b. cond b (Some x) (find test xs)) (h x (ap (λ b. b || has_number xs x) ((Decides-eqb x x).1 refl)))
    ∙ ap (cond (other x) (Some x)) (find_within test other xs (λ y e. h y (later (x == y) (has_number xs y) e)))
  where
    later : (a b : Bool) → b ≡ true → (a || b) ≡ true
    later true b e = refl
    later false b e = e

either_list : (xs ys : List ℕ) (n : ℕ) → has_number (xs ++ ys) n ≡ true → (has_number xs n ≡ true) ⊎ (has_number ys n ≡ true)
either_list [] ys n h = inr h
either_list (x ∷ xs) ys n h = one (x == n) (has_number (xs ++ ys) n) (has_number xs n) (has_number ys n) (either_list xs ys n) h
  where
    one : (a b c d : Bool) → (b ≡ true → (c ≡ true) ⊎ (d ≡ true)) → (a || b) ≡ true → ((a || c) ≡ true) ⊎ (d ≡ true)
    one true b c d f h = inl refl
    one false b c d f h = f h

or_kept : (a b c : Bool) → (b ≡ true → c ≡ true) → (a || b) ≡ true → (a || c) ≡ true
or_kept true b c f h = refl
or_kept false b c f h = f h

or_later : (a b : Bool) → b ≡ true → (a || b) ≡ true
or_later true b e = refl
or_later false b e = e

in_take : (k : ℕ) (xs : List ℕ) (n : ℕ) → has_number (take k xs) n ≡ true → has_number xs n ≡ true
in_take zero xs n h = let no : false ≡ true = h in absurd (cc)
in_take (suc k) [] n h = h
in_take (suc k) (x ∷ xs) n h = or_kept (x == n) (has_number (take k xs) n) (has_number xs n) (in_take k xs n) h

in_drop : (k : ℕ) (xs : List ℕ) (n : ℕ) → has_number (drop k xs) n ≡ true → has_number xs n ≡ true
in_drop zero xs n h = h
in_drop (suc k) [] n h = h
in_drop (suc k) (x ∷ xs) n h = or_later (x == n) (has_number xs n) (in_drop k xs n h)

in_rotated : (cursor : ℕ) (order : List ℕ) (n : ℕ) → has_number (rotated cursor order) n ≡ true → has_number order n ≡ true
in_rotated cursor order n h = elim (either_list (drop cursor order) (take cursor order) n h) [ inl behind ↦ in_drop cursor order n behind | inr front ↦ in_take cursor order n front ]

lets_by : (all b : Bool) → lets all (verdict_by b) ≡ b
lets_by all true = refl
lets_by all false = refl

pei_expression : (all : Bool) (s : StoreState) (expr : PartExpr) → lets all (expression_verdict Pei (has_ppi s) expr) ≡ lets_start s expr
pei_expression all s E.Absent = refl
pei_expression all s (E.Malformed at) = refl
pei_expression all s (E.Held expression) = lets_by all (depex_holds (has_ppi s) expression)

pei_may : (all : Bool) (s : StoreState) (part : Option Part) → lets all (verdict_in Pei (has_ppi s) part) ≡ may_start s part
pei_may all s None = refl
pei_may all s (Some part) = by (is_some part.rank)
  where
    by : (ranked : Bool) → lets all (cond ranked Yes (expression_verdict Pei (has_ppi s) part.expr)) ≡ (ranked || lets_start s part.expr)
    by true = refl
    by false = pei_expression all s part.expr

pei_bools : (started x h a w o : Bool) → w ≡ not started → o ≡ true → a ≡ (started && x) → (a || (w && o && h)) ≡ cond started x h
pei_bools started x h a w o e f g = ap (λ b. b || (w && o && h)) g ∙ ap (λ b. (started && x) || (b && o && h)) e ∙ ap (λ b. (started && x) || (not started && b && h)) f ∙ by started x h
  where
    by : (s y k : Bool) → ((s && y) || (not s && true && k)) ≡ cond s y k
    by true true k = refl
    by true false k = refl
    by false y k = refl

pei_one : (catalog : Catalog) (m : PeiMachine) (index : WaitIndex) → IsIndex catalog index → StandsForPei catalog m index → (number : ℕ) → has_number (order_in index) number ≡ true
    → is_eligible_in catalog index number ≡ is_eligible catalog m number
pei_one catalog m index is stands number within =
    let all = has_all (has_in index) in
    let same : verdict_of index.phase catalog (has_in index) number ≡ verdict_of index.phase catalog (has_ppi m.store) number =
    verdict_same index.phase catalog (has_in index) (has_ppi m.store) number (λ guid pushes. let its = is.watched.pushed guid number pushes in stands.installed guid its.0 its.1) in
    let holds : holds_by index.phase (has_in index) (part_at index.phase catalog number) ≡ may_start m.store (part_at Pei catalog number) =
    ap (lets all) same ∙ ap (λ (p : Phase). lets all (verdict_of p catalog (has_ppi m.store) number)) stands.phase ∙ pei_may all m.store (part_at Pei catalog number) in
    ap (λ h. again_in index number || (waits_in index number && is_open_in index number && h)) holds
    ∙ pei_bools (has_number m.started number) (may_start_again m number) (may_start m.store (part_at Pei catalog number)) (again_in index number) (waits_in index number) (is_open_in index number)
    (stands.waits number within) (stands.opens number within) (stands.again number within)

pub pei_next : (catalog : Catalog) (m : PeiMachine) (index : WaitIndex) → IsIndex catalog index → StandsForPei catalog m index
    → find (is_eligible_in catalog index) (rotated m.cursor (order_in index)) ≡ next_peim catalog m
pei_next catalog m index is stands =
    find_within (is_eligible_in catalog index) (is_eligible catalog m) (rotated m.cursor (order_in index)) (λ n e. pei_one catalog m index is stands n (in_rotated m.cursor (order_in index) n e))
    ∙ ap (λ (order : List ℕ). find (is_eligible catalog m) (rotated m.cursor order)) stands.order

all_same : (slots : Guid → ℕ → Type 0) (has other : Guid → Bool) (guids : List Guid) (ss : List ℕ) → ((guid : Guid) (slot : ℕ) → slots guid slot → has guid ≡ other guid) → EachPair slots guids ss → list_all has guids ≡ list_all other guids
all_same slots has other [] [] h pairs = refl
all_same slots has other [] (s ∷ ss) h pairs = absurd pairs
all_same slots has other (g ∷ guids) [] h pairs = absurd pairs
all_same slots has other (g ∷ guids) (s ∷ ss) h pairs =
    ap (λ b. b && list_all has guids) (h g s pairs.0) ∙ ap (λ b. other g && b) (all_same slots has other guids ss h pairs.1)

dxe_expression : (h : HandleState) (expr : PartExpr) → lets (has_all (has_protocol h)) (expression_verdict Dxe (has_protocol h) expr) ≡ lets_driver_start h expr
dxe_expression h E.Absent = refl
dxe_expression h (E.Malformed at) = refl
dxe_expression h (E.Held expression) = lets_by (has_all (has_protocol h)) (depex_holds (has_protocol h) expression)

dxe_may : (h : HandleState) (part : Option Part) → lets (has_all (has_protocol h)) (verdict_in Dxe (has_protocol h) part) ≡ driver_may_start h part
dxe_may h None = refl
dxe_may h (Some part) = dxe_expression h part.expr

dxe_bools : (waits unrequested h a w o : Bool) → w ≡ waits → o ≡ not unrequested → a ≡ false → (a || (w && o && h)) ≡ (waits && (not unrequested && h))
dxe_bools waits unrequested h a w o e f g = ap (λ b. b || (w && o && h)) g ∙ ap (λ b. b && o && h) e ∙ ap (λ b. waits && b && h) f ∙ by waits unrequested h
  where
    by : (x y k : Bool) → (x && not y && k) ≡ (x && (not y && k))
    by true y k = refl
    by false y k = refl

-- a driver of the order is eligible in the index where it waits and is eligible in the machine
pub dxe_one : (catalog : Catalog) (m : DxeMachine) (index : WaitIndex) → IsIndex catalog index → StandsForDxe catalog m index → (number : ℕ) → has_number (order_in index) number ≡ true
    → is_eligible_in catalog index number ≡ (is_waiting m number && is_eligible_driver catalog m number)
dxe_one catalog m index is stands number within =
    let h = m.handles in
    let same : verdict_of index.phase catalog (has_in index) number ≡ verdict_of index.phase catalog (has_protocol h) number =
    verdict_same index.phase catalog (has_in index) (has_protocol h) number (λ guid pushes. let its = is.watched.pushed guid number pushes in stands.installed guid its.0 its.1) in
    let all : has_all (has_in index) ≡ has_all (has_protocol h) =
    all_same (λ guid slot. value_of index.installed.slots guid ≡ Some slot) (has_in index) (has_protocol h) ARCHITECTURAL index.installed.protocols stands.installed (is.watched.protocols stands.phase) in
    let holds : holds_by index.phase (has_in index) (part_at index.phase catalog number) ≡ driver_may_start h (part_at Dxe catalog number) =
    ap (λ a. lets a (verdict_of index.phase catalog (has_in index) number)) all ∙ ap (lets (has_all (has_protocol h))) same
    ∙ ap (λ (p : Phase). lets (has_all (has_protocol h)) (verdict_of p catalog (has_protocol h) number)) stands.phase ∙ dxe_may h (part_at Dxe catalog number) in
    ap (λ b. again_in index number || (waits_in index number && is_open_in index number && b)) holds
    ∙ dxe_bools (is_waiting m number) (is_unrequested catalog m number) (driver_may_start h (part_at Dxe catalog number)) (again_in index number) (waits_in index number) (is_open_in index number)
    (stands.waits number within) (stands.opens number within) (stands.again number within)

find_filtered : (test kept : ℕ → Bool) (xs : List ℕ) → find (λ x. kept x && test x) xs ≡ find test (filter kept xs)
find_filtered test kept [] = refl
find_filtered test kept (x ∷ xs) = by (kept x) (find_filtered test kept xs)
  where
    by : (b : Bool) → find (λ y. kept y && test y) xs ≡ find test (filter kept xs) → cond (b && test x) (Some x) (find (λ y. kept y && test y) xs) ≡ find test (cond b (x ∷ filter kept xs) (filter kept xs))
    by true e = ap (cond (test x) (Some x)) e
    by false e = e

pub dxe_next : (catalog : Catalog) (m : DxeMachine) (index : WaitIndex) → IsIndex catalog index → StandsForDxe catalog m index
    → find (is_eligible_in catalog index) (rotated 0 (order_in index)) ≡ first_eligible catalog m
dxe_next catalog m index is stands =
    ap (find (is_eligible_in catalog index)) (append-nil (order_in index))
    ∙ find_within (is_eligible_in catalog index) (λ n. is_waiting m n && is_eligible_driver catalog m n) (order_in index) (dxe_one catalog m index is stands)
    ∙ find_filtered (is_eligible_driver catalog m) (is_waiting m) (order_in index)
    ∙ ap (λ (order : List ℕ). find (is_eligible_driver catalog m) (filter (is_waiting m) order)) stands.order
