-- The PEI order of volumes that differ: no part stands twice, and each part of the volumes is there.
use Rattle.std.proofs.Common.{◌≡◌, ℕ, zero, suc, ◌+◌, ◌<◌, ◌≤◌, ◌==◌, Bool, true, false, ◌||◌, cond, List, [], ◌∷◌, ◌++◌, length, Option, Some, None, is_some, refl, sym, ap, ◌∙◌, subst, arith, ◌≢◌, filter, flat_map, is_none, slice_get, unwrap_or, IfSome, option_and_then, option_map}
use Rattle.std.proofs.lemmas.Bool.Decides.{nat_tests}
use Rattle.pi_base.specs.{declared.phase.Phase.Phase, declared.phase.Phase.TheVariants.Pei, Lists.Each, Lists.numbers}
use Rattle.mod_catalog.specs.{declared.catalogue.Catalog.Catalog, declared.catalogue.Module.Module, declared.catalogue.Part.Part}
use Rattle.mod_catalog.specs.Parts.{has_number, part_of, part_at, rank_at, module_volume, is_part_in, parts_from, parts_in}
use Rattle.mod_catalog.specs.WellFormed.{IsWellFormed, IsRankWithin}
use Rattle.boot_model.specs.PeiChoice.{is_rank, ranked, volume_order, pei_order}
use Rattle.boot_model.specs.Licence.{IsPartAmong}
use Rattle.boot_laws.specs.PeiOrder.{OrderIsOfModules, OrderHasEachPartOnce}
use Rattle.boot_model.proofs.ListFacts.{each_more, each_append, each_cross, each_filter, each_flat, each_has, has_later, has_here, within}
use Rattle.boot_model.proofs.Distinct.{Distinct, all_differ, all_distinct, distinct_append, distinct_filter, distinct_flat, few_below}
use Rattle.boot_laws.proofs.PartLists.{IsPartOfVolume, parts_are, distinct_parts, passed, distinct_ranked, each_ranked, have_rank, each_of}

either : (o : Option ℕ) → is_some o ≡ true → is_none o ≡ true → ⊥
either (Some rank) some none = cc
either None some none = cc

differ_by_rank : (rank_of : ℕ → Option ℕ) (x y : ℕ) → is_some (rank_of x) ≡ true → is_none (rank_of y) ≡ true → x ≢ y
differ_by_rank rank_of x y some none e = either (rank_of y) (subst (λ n. is_some (rank_of n) ≡ true) e some) none

volume_distinct : (catalog : Catalog) (volume : ℕ) → Distinct (volume_order catalog volume)
volume_distinct catalog volume =
    let all = parts_in Pei catalog volume in
    let rank_of = rank_at Pei catalog in
    let differ = distinct_parts Pei catalog volume in
    distinct_append (ranked rank_of all) (filter (λ n. is_none (rank_of n)) all) (distinct_ranked rank_of all differ) (distinct_filter (λ n. is_none (rank_of n)) all differ)
    (each_cross (λ n. is_some (rank_of n) ≡ true) (λ n. is_none (rank_of n) ≡ true) (λ x y. x ≢ y) (ranked rank_of all) (filter (λ n. is_none (rank_of n)) all) (differ_by_rank rank_of)
    (have_rank rank_of all) (passed (λ n. is_none (rank_of n) ≡ true) (λ n. is_none (rank_of n)) all (λ n h. h)))

pub volume_parts_are : (catalog : Catalog) (volume : ℕ) → Each (IsPartOfVolume Pei catalog volume) (volume_order catalog volume)
volume_parts_are catalog volume =
    let all = parts_in Pei catalog volume in
    let rank_of = rank_at Pei catalog in
    let are = parts_are Pei catalog volume in
    each_append (IsPartOfVolume Pei catalog volume) (ranked rank_of all) (filter (λ n. is_none (rank_of n)) all) (each_ranked (IsPartOfVolume Pei catalog volume) rank_of all are)
    (each_filter (IsPartOfVolume Pei catalog volume) (λ n. is_none (rank_of n)) all are)

order_distinct : (catalog : Catalog) (reported : List ℕ) → Distinct reported → Distinct (pei_order catalog reported)
order_distinct catalog reported differ =
    distinct_flat (IsPartOfVolume Pei catalog) (volume_order catalog) (λ volume other n h k. sym h.1 ∙ k.1) reported differ
    (each_of (λ v. Distinct (volume_order catalog v)) (volume_distinct catalog) reported) (each_of (λ v. Each (IsPartOfVolume Pei catalog v) (volume_order catalog v)) (volume_parts_are catalog) reported)

order_below : (catalog : Catalog) (reported : List ℕ) → Each (λ n. n < length catalog.modules) (pei_order catalog reported)
order_below catalog reported =
    each_flat (λ n. n < length catalog.modules) (λ v. Unit {0}) (volume_order catalog) reported
    (λ v _. each_more (IsPartOfVolume Pei catalog v) (λ n. n < length catalog.modules) (volume_order catalog v) (λ n is. within (part_of Pei) catalog.modules n is.0) (volume_parts_are catalog v))
    (each_of (λ v. Unit {0}) (λ v. tt) reported)

pub order_of_modules : OrderIsOfModules
order_of_modules catalog reported differ =
    let order = pei_order catalog reported in
    let once = all_differ order (order_distinct catalog reported (all_distinct reported differ)) in
    let below = order_below catalog reported in
    record { differ = once; below = below; few = few_below order (length catalog.modules) once below }

-- what is in one of two lists is in both together
pub has_front : (xs ys : List ℕ) (n : ℕ) → has_number xs n ≡ true → has_number (xs ++ ys) n ≡ true
has_front [] ys n h = cc
has_front (x ∷ xs) ys n h = front_on (x == n) (has_number xs n) (has_number (xs ++ ys) n) (has_front xs ys n) h where
  front_on : (here later both : Bool) → (later ≡ true → both ≡ true) → (here || later) ≡ true → (here || both) ≡ true
  front_on true later both f h = refl
  front_on false later both f h = f h

pub has_back : (xs ys : List ℕ) (n : ℕ) → has_number ys n ≡ true → has_number (xs ++ ys) n ≡ true
has_back [] ys n h = h
has_back (x ∷ xs) ys n h = has_later (x == n) (has_number (xs ++ ys) n) (has_back xs ys n h)

equal_is : (x n : ℕ) → (x == n) ≡ true → x ≡ n
equal_is x n e = grind (arith, nat_tests)

-- in the lists of some numbers there is what is in one of them
flat_on : (f : ℕ → List ℕ) (y x n : ℕ) (ys : List ℕ) (b : Bool) → (y == x) ≡ b → has_number (f x) n ≡ true → (has_number ys x ≡ true → has_number (flat_map f ys) n ≡ true)
    → (b || has_number ys x) ≡ true → has_number (f y ++ flat_map f ys) n ≡ true
flat_on f y x n ys true e here rest h = has_front (f y) (flat_map f ys) n (subst (λ k. has_number (f k) n ≡ true) (sym (equal_is y x e)) here)
flat_on f y x n ys false e here rest h = has_back (f y) (flat_map f ys) n (rest h)

pub has_flat : (f : ℕ → List ℕ) (xs : List ℕ) (x n : ℕ) → has_number xs x ≡ true → has_number (f x) n ≡ true → has_number (flat_map f xs) n ≡ true
has_flat f [] x n has here = cc
has_flat f (y ∷ ys) x n has here = flat_on f y x n ys (y == x) refl here (λ k. has_flat f ys x n k here) has

-- what is in a list and passes a test is in the list of those that do
kept_has : (b : Bool) (x n : ℕ) (xs : List ℕ) → has_number xs n ≡ true → has_number (cond b (x ∷ xs) xs) n ≡ true
kept_has true x n xs h = has_later (x == n) (has_number xs n) h
kept_has false x n xs h = h

kept_here : (b : Bool) (x n : ℕ) (xs : List ℕ) → b ≡ true → (x == n) ≡ true → has_number (cond b (x ∷ xs) xs) n ≡ true
kept_here true x n xs e same = has_here (x == n) (has_number xs n) same
kept_here false x n xs e same = cc

filtered_on : (test : ℕ → Bool) (x n : ℕ) (xs : List ℕ) (b : Bool) → (x == n) ≡ b → test n ≡ true → (has_number xs n ≡ true → has_number (filter test xs) n ≡ true)
    → (b || has_number xs n) ≡ true → has_number (cond (test x) (x ∷ filter test xs) (filter test xs)) n ≡ true
filtered_on test x n xs true e t rest h = kept_here (test x) x n (filter test xs) (subst (λ m. test m ≡ true) (sym (equal_is x n e)) t) e
filtered_on test x n xs false e t rest h = kept_has (test x) x n (filter test xs) (rest h)

pub has_filtered : (test : ℕ → Bool) (xs : List ℕ) (n : ℕ) → test n ≡ true → has_number xs n ≡ true → has_number (filter test xs) n ≡ true
has_filtered test [] n t h = cc
has_filtered test (x ∷ xs) n t h = filtered_on test x n xs (x == n) refl t (has_filtered test xs n t) h

-- the numbers from one on
numbers_on : (n from : ℕ) (rest : List ℕ) (b : Bool) → (from == n) ≡ b → from ≤ n → (from + 1 ≤ n → has_number rest n ≡ true) → (b || has_number rest n) ≡ true
numbers_on n from rest true e low f = refl
numbers_on n from rest false e low f = f (grind (arith, nat_tests))

pub has_numbers : (n from count : ℕ) → from ≤ n → n < from + count → has_number (numbers from count) n ≡ true
has_numbers n from zero low high = absurd (omega (arith, low, high))
has_numbers n from (suc count) low high = numbers_on n from (numbers (from + 1) count) (from == n) refl low (λ later. has_numbers n (from + 1) count later (omega (arith, high)))

-- a module with a part of a volume is among its parts
listed_on : (b : Bool) (number : ℕ) (rest : List ℕ) → b ≡ true → has_number (cond b (number ∷ []) [] ++ rest) number ≡ true
listed_on true number rest e = let same : (number == number) ≡ true = grind (arith, nat_tests) in has_here (number == number) (has_number rest number) same
listed_on false number rest e = cc

is_part : (phase : Phase) (m : Module) → is_some (part_of phase m) ≡ true → is_part_in phase m.volume m ≡ true
is_part phase m some = let same : (m.volume == m.volume) ≡ true = grind (arith, nat_tests) in cc

part_listed : (phase : Phase) (volume : ℕ) (ms : List Module) (from i : ℕ) → is_some (option_and_then (part_of phase) (slice_get ms i)) ≡ true
    → unwrap_or (option_map (λ m. m.volume) (slice_get ms i)) 0 ≡ volume → has_number (parts_from phase volume from ms) (from + i) ≡ true
part_listed phase volume [] from i some same = cc
part_listed phase volume (m ∷ ms) from zero some same =
    let at : from ≡ from + 0 = omega arith in
    let is : is_part_in phase volume m ≡ true = subst (λ v. is_part_in phase v m ≡ true) same (is_part phase m some) in
    subst (λ n. has_number (parts_from phase volume from (m ∷ ms)) n ≡ true) at (listed_on (is_part_in phase volume m) from (parts_from phase volume (from + 1) ms) is)
part_listed phase volume (m ∷ ms) from (suc i) some same =
    let at : from + 1 + i ≡ from + suc i = omega arith in
    subst (λ n. has_number (parts_from phase volume from (m ∷ ms)) n ≡ true) at
    (has_back (cond (is_part_in phase volume m) (from ∷ []) []) (parts_from phase volume (from + 1) ms) (from + 1 + i) (part_listed phase volume ms (from + 1) i some same))

pub part_in_volume : (phase : Phase) (catalog : Catalog) (number : ℕ) → is_some (part_at phase catalog number) ≡ true → has_number (parts_in phase catalog (module_volume catalog number)) number ≡ true
part_in_volume phase catalog number some =
    let at : 0 + number ≡ number = omega arith in
    subst (λ n. has_number (parts_in phase catalog (module_volume catalog number)) n ≡ true) at (part_listed phase (module_volume catalog number) catalog.modules 0 number some refl)

-- its rank, where it has one, is below the number of its volume's parts
pub ranked_within : (phase : Phase) (catalog : Catalog) (ms : List Module) (i rank : ℕ) → Each (IsRankWithin phase catalog) ms
    → option_and_then (λ part. part.rank) (option_and_then (part_of phase) (slice_get ms i)) ≡ Some rank
    → rank < length (parts_in phase catalog (unwrap_or (option_map (λ m. m.volume) (slice_get ms i)) 0))
ranked_within phase catalog [] i rank each e = cc
ranked_within phase catalog (m ∷ ms) zero rank each e = first_within (part_of phase m) each.0 e where
  rank_within : (o : Option ℕ) → IfSome o (λ r. r < length (parts_in phase catalog m.volume)) → o ≡ Some rank → rank < length (parts_in phase catalog m.volume)
  rank_within None h e = cc
  rank_within (Some r) h e = let same : r ≡ rank = cc in subst (λ n. n < length (parts_in phase catalog m.volume)) same h

  first_within : (part : Option Part) → IfSome part (λ p. IfSome p.rank (λ r. r < length (parts_in phase catalog m.volume))) → option_and_then (λ p. p.rank) part ≡ Some rank
      → rank < length (parts_in phase catalog m.volume)
  first_within None h e = cc
  first_within (Some p) h e = rank_within p.rank h e
ranked_within phase catalog (m ∷ ms) (suc i) rank each e = ranked_within phase catalog ms i rank each.1 e

-- a part with a rank below the number of all is among the ranked ones
pub ranked_has : (all : List ℕ) (rank_of : ℕ → Option ℕ) (number r : ℕ) → rank_of number ≡ Some r → has_number all number ≡ true → r < length all → has_number (ranked rank_of all) number ≡ true
ranked_has all rank_of number r e has lt =
    let same : (r == r) ≡ true = grind (arith, nat_tests) in
    let is : is_rank (rank_of number) r ≡ true = ap (λ o. is_rank o r) e ∙ same in
    has_flat (λ rank. filter (λ n. is_rank (rank_of n) rank) all) (numbers 0 (length all)) r number (has_numbers r 0 (length all) (omega arith) (omega (arith, lt)))
    (has_filtered (λ n. is_rank (rank_of n) r) all number is has)

-- a part stands in the order of its volume: with a rank among the ranked ones, else among the others
in_order : (all : List ℕ) (rank_of : ℕ → Option ℕ) (number : ℕ) (rank : Option ℕ) → rank_of number ≡ rank → has_number all number ≡ true
    → ((r : ℕ) → rank ≡ Some r → r < length all) → has_number (ranked rank_of all ++ filter (λ n. is_none (rank_of n)) all) number ≡ true
in_order all rank_of number None e has below =
    has_back (ranked rank_of all) (filter (λ n. is_none (rank_of n)) all) number (has_filtered (λ n. is_none (rank_of n)) all number (ap is_none e) has)
in_order all rank_of number (Some r) e has below = has_front (ranked rank_of all) (filter (λ n. is_none (rank_of n)) all) number (ranked_has all rank_of number r e has (below r refl))

in_volume_order : (catalog : Catalog) (number : ℕ) → IsWellFormed catalog → is_some (part_at Pei catalog number) ≡ true → has_number (volume_order catalog (module_volume catalog number)) number ≡ true
in_volume_order catalog number well some =
    in_order (parts_in Pei catalog (module_volume catalog number)) (rank_at Pei catalog) number (rank_at Pei catalog number) refl (part_in_volume Pei catalog number some)
    (λ r e. ranked_within Pei catalog catalog.modules number r well.pei_ranks e)

pub in_pei_order : (catalog : Catalog) (reported : List ℕ) (number : ℕ) → IsWellFormed catalog → IsPartAmong Pei catalog reported number → has_number (pei_order catalog reported) number ≡ true
in_pei_order catalog reported number well is =
    has_flat (volume_order catalog) reported (module_volume catalog number) number is.1 (in_volume_order catalog number well is.0)

-- and nothing else does
among : (catalog : Catalog) (reported : List ℕ) (volume number : ℕ) → has_number reported volume ≡ true → IsPartOfVolume Pei catalog volume number → IsPartAmong Pei catalog reported number
among catalog reported volume number has is = (is.0, subst (λ v. has_number reported v ≡ true) (sym is.1) has)

order_only : (catalog : Catalog) (reported : List ℕ) → Each (IsPartAmong Pei catalog reported) (pei_order catalog reported)
order_only catalog reported =
    each_flat (IsPartAmong Pei catalog reported) (λ v. has_number reported v ≡ true) (volume_order catalog) reported
    (λ v has. each_more (IsPartOfVolume Pei catalog v) (IsPartAmong Pei catalog reported) (volume_order catalog v) (λ n is. among catalog reported v n has is) (volume_parts_are catalog v)) (each_has reported)

pub order_has_each_part_once : OrderHasEachPartOnce
order_has_each_part_once catalog reported well differ =
    record { differ = (order_of_modules catalog reported differ).differ; only = order_only catalog reported; each = λ number is. in_pei_order catalog reported number well is }
