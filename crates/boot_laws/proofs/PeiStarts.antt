-- From a machine of PEI each start has its licence, the move changes no PPI, notification or other HOB, and PEI stops only where none may start.
use Rattle.std.proofs.Common.{take-append-drop, ◌≡◌, ℕ, Bool, true, false, not, ◌&&◌, ◌||◌, cond, List, [], ◌∷◌, ◌++◌, Option, Some, None, refl, sym, ap, subst, ◌∙◌, option_map, is_some, drop, take, ◌==◌, arith, find}
use Rattle.std.specs.List.{list_any}
use Rattle.mod_catalog.specs.{declared.catalogue.Catalog.Catalog, declared.catalogue.Part.Part, declared.catalogue.PartExpr.PartExpr}
use Rattle.mod_catalog.specs.declared.catalogue.PartExpr.TheVariants as E
use Rattle.boot_model.specs.declared.licence.Licence.TheVariants as G
use Rattle.store_model.specs.{declared.store_handle.Firing.Firing, declared.store_handle.Sweep.Sweep, StoreState.StoreState}
use Rattle.store_model.specs.{StateFacts.IsStoreState, Migration.migration}
use Rattle.boot_model.specs.PeiMachine.{PeiMachine, Frame}
use Rattle.std.proofs.lemmas.Bool.Decides.{nat_tests}
use Rattle.mod_catalog.specs.{WellFormed.IsWellFormed, Parts.has_number}
use Rattle.boot_model.specs.Eligible.{is_eligible, may_start, may_start_again, lets_start, licence_by}
use Rattle.boot_model.specs.PeiChoice.{pei_order, rotated, next_peim}
use Rattle.boot_model.specs.PeiStep.{Fires, Moves, Pops, Starts, Stops, first_that_applies, acts}
use Rattle.boot_model.proofs.ListFacts.{found_passes}
use Rattle.boot_laws.proofs.{PeiOrders.in_pei_order, Unmoved.moves_change_nothing}
use Rattle.boot_model.specs.Licence.{IsLicensed, StartsLicensed, MovesUnchanged, StopsIdle, IsLicensedStep}

-- the last case but one, and the last
pub starts_from : (a : Option (Firing × Sweep)) (frames : List Frame) (c : Option StoreState) (d : Option (Firing × StoreState)) (e : Option ℕ) (number : ℕ)
    → first_that_applies (option_map (λ pair. Fires pair.0 pair.1) a ∷ acts frames ∷ option_map (λ new. Moves new) c ∷ option_map (λ pair. Pops pair.0 pair.1) d ∷ option_map (λ n. Starts n) e ∷ []) ≡ Starts number
    → e ≡ Some number
starts_from (Some a) frames c d e number h = cc
starts_from None (frame ∷ below) c d e number h = cc
starts_from None [] (Some c) d e number h = cc
starts_from None [] None (Some d) e number h = cc
starts_from None [] None None (Some e) number h = cc
starts_from None [] None None None number h = cc

pub stops_from : (a : Option (Firing × Sweep)) (frames : List Frame) (c : Option StoreState) (d : Option (Firing × StoreState)) (e : Option ℕ)
    → first_that_applies (option_map (λ pair. Fires pair.0 pair.1) a ∷ acts frames ∷ option_map (λ new. Moves new) c ∷ option_map (λ pair. Pops pair.0 pair.1) d ∷ option_map (λ n. Starts n) e ∷ []) ≡ Stops
    → e ≡ None
stops_from (Some a) frames c d e h = cc
stops_from None (frame ∷ below) c d e h = cc
stops_from None [] (Some c) d e h = cc
stops_from None [] None (Some d) e h = cc
stops_from None [] None None (Some e) h = cc
stops_from None [] None None None h = refl

pub moves_from : (a : Option (Firing × Sweep)) (frames : List Frame) (c : Option StoreState) (d : Option (Firing × StoreState)) (e : Option ℕ) (new : StoreState)
    → first_that_applies (option_map (λ pair. Fires pair.0 pair.1) a ∷ acts frames ∷ option_map (λ new. Moves new) c ∷ option_map (λ pair. Pops pair.0 pair.1) d ∷ option_map (λ n. Starts n) e ∷ []) ≡ Moves new
    → c ≡ Some new
moves_from (Some a) frames c d e new h = cc
moves_from None (frame ∷ below) c d e new h = cc
moves_from None [] (Some c) d e new h = cc
moves_from None [] None (Some d) e new h = cc
moves_from None [] None None (Some e) new h = cc
moves_from None [] None None None new h = cc

-- the licence of a first start, by the part's fields
first_start : (m : PeiMachine) (number : ℕ) (part : Part) (rank : Option ℕ) (expr : PartExpr) → part.rank ≡ rank → part.expr ≡ expr → (is_some rank || lets_start m.store expr) ≡ true → IsLicensed m number part (licence_by rank expr)
first_start m number part (Some rank) expr r e h = ap is_some r
first_start m number part None E.Absent r e h = e
first_start m number part None (E.Malformed at) r e h = cc
first_start m number part None (E.Held expression) r e h = (expression, e, h)

-- all three of a second start
pub second_start : (a b c : Bool) → (a && not b && c) ≡ true → (a ≡ true) × (b ≡ false) × (c ≡ true)
second_start true false c h = (refl, refl, h)
second_start true true c h = cc
second_start false b c h = cc

-- the licence of a part that may start, by whether it has started
by_started : (m : PeiMachine) (number : ℕ) (part : Part) (before : Bool) → has_number m.started number ≡ before
    → cond before (may_start_again m number) (may_start m.store (Some part)) ≡ true
    → IsLicensed m number part (cond before G.Shadow (licence_by part.rank part.expr))
by_started m number part true e h = second_start (has_number m.shadows number) (has_number m.again number) m.store.moved h
by_started m number part false e h = first_start m number part part.rank part.expr refl refl h

starts_licensed : (catalog : Catalog) (m : PeiMachine) → StartsLicensed catalog m
starts_licensed catalog m number part starts is =
    let found : next_peim catalog m ≡ Some number = starts_from _ m.frames _ _ (next_peim catalog m) number starts in
    let eligible : is_eligible catalog m number ≡ true = found_passes (is_eligible catalog m) (rotated m.cursor (pei_order catalog m.reported)) number found in
    let may = ap (λ held. cond (has_number m.started number) (may_start_again m number) (may_start m.store held)) is in
    by_started m number part (has_number m.started number) refl (sym may ∙ eligible)

-- what finds nothing has none
none_on : {A : Type 0} (p : A → Bool) (y : A) (later : Option A) (others b : Bool) → (later ≡ None → others ≡ false) → cond b (Some y) later ≡ None → (b || others) ≡ false
none_on p y later others true down h = cc
none_on p y later others false down h = down h

pub none_found : {A : Type 0} (p : A → Bool) (xs : List A) → find p xs ≡ None → list_any p xs ≡ false
none_found p [] h = refl
none_found p (y ∷ ys) h = none_on p y (find p ys) (list_any p ys) (p y) (none_found p ys) h

or_false : (a b : Bool) → (a || b) ≡ false → (a ≡ false) × (b ≡ false)
or_false true b h = cc
or_false false b h = (refl, h)

neither : (a b c : Bool) → a ≡ false → (b || c) ≡ false → ((a || b) || c) ≡ false
neither true b c e h = cc
neither false b c e h = h

pub any_of_both : {A : Type 0} (p : A → Bool) (xs ys : List A) → list_any p (xs ++ ys) ≡ (list_any p xs || list_any p ys)
any_of_both p [] ys = refl
any_of_both p (x ∷ xs) ys = let rest = any_of_both p xs ys in elim (p x) as (λ b. (b || list_any p (xs ++ ys)) ≡ ((b || list_any p xs) || list_any p ys)) [ true ↦ refl | false ↦ rest ]

neither_of : (a b : Bool) → a ≡ false → b ≡ false → (a || b) ≡ false
neither_of a b e h = cc

-- a list that is rotated has what the list has
pub none_rotated : (p : ℕ → Bool) (cursor : ℕ) (order : List ℕ) → list_any p (rotated cursor order) ≡ false → list_any p order ≡ false
none_rotated p cursor order h =
    let parts = or_false (list_any p (drop cursor order)) (list_any p (take cursor order)) (sym (any_of_both p (drop cursor order) (take cursor order)) ∙ h) in
    let both : (list_any p (take cursor order) || list_any p (drop cursor order)) ≡ false = neither_of _ _ parts.1 parts.0 in
    subst (λ xs. list_any p xs ≡ false) (take-append-drop cursor order) (any_of_both p (take cursor order) (drop cursor order) ∙ both)

-- in a list of which no item passes a test, none does
pub passes_on : (p : ℕ → Bool) (x n : ℕ) (b later : Bool) → (x == n) ≡ b → p x ≡ false → (later ≡ true → p n ≡ false) → (b || later) ≡ true → p n ≡ false
passes_on p x n true later e first rest h = let same : x ≡ n = grind (arith, nat_tests) in subst (λ m. p m ≡ false) same first
passes_on p x n false later e first rest h = rest h

pub none_passes : (p : ℕ → Bool) (xs : List ℕ) (n : ℕ) → list_any p xs ≡ false → has_number xs n ≡ true → p n ≡ false
none_passes p [] n h has = cc
none_passes p (x ∷ xs) n h has = let both = or_false (p x) (list_any p xs) h in passes_on p x n (x == n) (has_number xs n) refl both.0 (none_passes p xs n both.1) has

stops_idle : (catalog : Catalog) (m : PeiMachine) → IsWellFormed catalog → StopsIdle catalog m
stops_idle catalog m well stops number is =
    let none : next_peim catalog m ≡ None = stops_from _ m.frames _ _ (next_peim catalog m) stops in
    let idle = none_rotated (is_eligible catalog m) m.cursor (pei_order catalog m.reported) (none_found (is_eligible catalog m) (rotated m.cursor (pei_order catalog m.reported)) none) in
    none_passes (is_eligible catalog m) (pei_order catalog m.reported) number idle (in_pei_order catalog m.reported number well is)

moves_unchanged : (catalog : Catalog) (m : PeiMachine) → IsStoreState m.store → MovesUnchanged catalog m
moves_unchanged catalog m facts new moves = moves_change_nothing m.store new facts (moves_from _ m.frames (migration m.store) _ (next_peim catalog m) new moves)

pub licensed_step : (catalog : Catalog) (m : PeiMachine) → IsWellFormed catalog → IsStoreState m.store → IsLicensedStep catalog m
licensed_step catalog m well facts = record { starts = starts_licensed catalog m; moves = moves_unchanged catalog m facts; stops = stops_idle catalog m well }
