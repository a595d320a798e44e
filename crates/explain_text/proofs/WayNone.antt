-- Where an expression has a truth already, the first of its ways to that truth changes nothing.
use Rattle.std.proofs.Common.{◌≡◌, ◌⊎◌, inl, inr, ℕ, zero, suc, Bool, true, false, ◌||◌, ◌&&◌, not, cond, nat_lt, length, List, [], ◌∷◌, ◌++◌, filter, map, take, fold, Option, Some, None, refl, sym, ap, ◌∙◌, subst, arith, option_and_then, option_map, option_to_list}
use Rattle.std.proofs.lemmas.Bool.Decides.{nat_tests}
use Rattle.pi_base.specs.{declared.guid.Guid.Guid, Lists.Each}
use Rattle.pi_base.proofs.ListFacts.{each_append}
use Rattle.depex_code.specs.Tree.{DepexTree, True, False, Push, Not, And, Or, truth}
use Rattle.explain_text.specs.{declared.ways.literal.Literal.Literal, declared.ways.change.Change.Change}
use Rattle.explain_text.specs.declared.ways.cheapest.TheConstants.{MOST_WAYS}
use Rattle.explain_text.specs.Change.{Agrees, change_by, is_wanted, wanted}
use Rattle.explain_text.specs.Ways.{Way, added_by, by_cost, cost, crossed, fewest, first_way, joined, joined_with, placed, said_of, same_truth, says, ways}
use Rattle.explain_text.proofs.WayOnce.{IsKnown, Knows, each_knows, joined_each}
use Rattle.explain_text.proofs.WayTruth.{said_agrees}

-- the first changes nothing, and one of them does
abbrev pub StartsFree : List Way → Type 0
StartsFree [] = ⊥
StartsFree (way ∷ ways) = cost way ≡ 0

abbrev pub HasFree : List Way → Type 0
HasFree [] = ⊥
HasFree (way ∷ ways) = (cost way ≡ 0) ⊎ HasFree ways

-- one that changes nothing comes first
placed_free : (way : Way) (others : List Way) → cost way ≡ 0 → StartsFree (placed way others)
placed_free way [] free = free
placed_free way (other ∷ others) free = by (nat_lt (cost way) (cost other)) refl
  where
    by : (b : Bool) → nat_lt (cost way) (cost other) ≡ b → StartsFree (cond b (way ∷ other ∷ others) (other ∷ placed way others))
    by true less = free
    by false less = grind (arith, nat_tests)

still_free : (way : Way) (others : List Way) → StartsFree others → StartsFree (placed way others)
still_free way [] free = absurd free
still_free way (other ∷ others) free = by (nat_lt (cost way) (cost other)) refl
  where
    by : (b : Bool) → nat_lt (cost way) (cost other) ≡ b → StartsFree (cond b (way ∷ other ∷ others) (other ∷ placed way others))
    by true less = grind (arith, nat_tests)
    by false less = free

sorted_free : (before ways : List Way) → StartsFree before → StartsFree (fold (λ sorted way. placed way sorted) before ways)
sorted_free before [] free = free
sorted_free before (way ∷ ways) free = sorted_free (placed way before) ways (still_free way before free)

sorted_has : (before ways : List Way) → HasFree ways → StartsFree (fold (λ sorted way. placed way sorted) before ways)
sorted_has before [] free = absurd free
sorted_has before (way ∷ ways) (inl free) = sorted_free (placed way before) ways (placed_free way before free)
sorted_has before (way ∷ ways) (inr free) = sorted_has (placed way before) ways free

taken_free : (ways : List Way) → StartsFree ways → StartsFree (take MOST_WAYS ways)
taken_free [] free = free
taken_free (way ∷ ways) free = free

fewest_free : (ways : List Way) → HasFree ways → StartsFree (fewest ways)
fewest_free ways free = taken_free (by_cost ways) (sorted_has [] ways free)

one_free : (ways : List Way) → StartsFree ways → HasFree ways
one_free [] free = absurd free
one_free (way ∷ ways) free = inl free

in_first : (firsts seconds : List Way) → HasFree firsts → HasFree (firsts ++ seconds)
in_first [] seconds free = absurd free
in_first (way ∷ firsts) seconds (inl free) = inl free
in_first (way ∷ firsts) seconds (inr free) = inr (in_first firsts seconds free)

in_second : (firsts seconds : List Way) → HasFree seconds → HasFree (firsts ++ seconds)
in_second [] seconds free = free
in_second (way ∷ firsts) seconds free = inr (in_second firsts seconds free)

-- a way changes nothing where what is installed is as it says
so_by : (so old there : Bool) → so ≡ same_truth old there → so ≡ true → old ≡ there
so_by so true true knows is = refl
so_by so true false knows is = sym is ∙ knows
so_by so false true knows is = sym (sym is ∙ knows)
so_by so false false knows is = refl

free_literal : (literal : Literal) (way : Way) → cost (literal ∷ way) ≡ 0 → (literal.is_so ≡ true) × (cost way ≡ 0)
free_literal literal way free = by literal.is_so refl free
  where
    by : (b : Bool) → literal.is_so ≡ b → length (cond (not b) (literal ∷ filter (λ other. not other.is_so) way) (filter (λ other. not other.is_so) way)) ≡ 0 → (literal.is_so ≡ true) × (cost way ≡ 0)
    by true is free = (is, free)
    by false is free = absurd (cc)

agrees_free : (has : Guid → Bool) (way : Way) → Knows has way → cost way ≡ 0 → Agrees has way
agrees_free has [] knows free = tt
agrees_free has (literal ∷ way) knows free =
    let both = free_literal literal way free in
    (so_by literal.is_so (has literal.guid) literal.there knows.0 both.0, agrees_free has way knows.1 both.1)

so_is : (so old there : Bool) → so ≡ same_truth old there → old ≡ there → so ≡ true
so_is so true true knows is = knows
so_is so true false knows is = absurd (cc)
so_is so false true knows is = absurd (cc)
so_is so false false knows is = knows

free_agrees : (has : Guid → Bool) (way : Way) → Knows has way → Agrees has way → cost way ≡ 0
free_agrees has [] knows agrees = refl
free_agrees has (literal ∷ way) knows agrees =
    let so = so_is literal.is_so (has literal.guid) literal.there knows.0 agrees.0 in
    ap (λ b. length (cond (not b) (literal ∷ filter (λ other. not other.is_so) way) (filter (λ other. not other.is_so) way))) so ∙ free_agrees has way knows.1 agrees.1

-- two ways that say what is so can be joined
same_is : (a b : Bool) → a ≡ b → same_truth a b ≡ true
same_is true true e = refl
same_is true false e = absurd (cc)
same_is false true e = absurd (cc)
same_is false false e = refl

abbrev Joins : Way → Way → Type 0
Joins way others = (more : Way) × (joined way others ≡ Some more)

joins : (has : Guid → Bool) (way others : Way) → Agrees has way → Agrees has others → Joins way others
joins has way [] left right = (way, refl)
joins has way (literal ∷ others) left right =
    by (said_of way literal.guid) refl (joins has (way ++ literal ∷ []) others (each_append (λ (other : Literal). has other.guid ≡ other.there) way (literal ∷ []) left (right.0, tt)) right.1) (joins has way others left right.1)
  where
    by : (o : Option Bool) → said_of way literal.guid ≡ o → Joins (way ++ literal ∷ []) others → Joins way others → (more : Way) × (option_and_then (λ more. joined more others) (added_by way literal o) ≡ Some more)
    by None said grown later = grown
    by (Some there) said grown later =
        let same = same_is there literal.there (sym (said_agrees has way literal.guid there said left) ∙ right.0) in
        (later.0, ap (λ b. option_and_then (λ more. joined more others) (cond b (Some way) None)) same ∙ later.1)

-- so each way of one side with each of the other
crossed_free : (has : Guid → Bool) (firsts seconds : List Way) → Each (Knows has) firsts → Each (Knows has) seconds → StartsFree firsts → StartsFree seconds → HasFree (crossed firsts seconds)
crossed_free has [] seconds left right one other = absurd one
crossed_free has (first ∷ firsts) [] left right one other = absurd other
crossed_free has (first ∷ firsts) (second ∷ seconds) left right one other =
    let a = agrees_free has first left.0 one in
    let b = agrees_free has second right.0 other in
    let pair = joins has first second a b in
    let agrees = joined_each (λ (literal : Literal). has literal.guid ≡ literal.there) first second pair.0 pair.1 a b in
    let free = free_agrees has pair.0 (joined_each (IsKnown has) first second pair.0 pair.1 left.0 right.0) agrees in
    in_first (joined_with (second ∷ seconds) first) (crossed firsts (second ∷ seconds))
    (in_first (option_to_list (joined first second)) (joined_with seconds first) (subst (λ o. HasFree (option_to_list o)) (sym pair.1) (inl free)))

both_true : (a b : Bool) → (a && b) ≡ true → (a ≡ true) × (b ≡ true)
both_true true b e = (refl, e)
both_true false b e = absurd (cc)

both_false : (a b : Bool) → (a || b) ≡ false → (a ≡ false) × (b ≡ false)
both_false true b e = absurd (cc)
both_false false b e = (refl, e)

one_false : (a b : Bool) → (a && b) ≡ false → (a ≡ false) ⊎ (b ≡ false)
one_false true b e = inr e
one_false false b e = inl refl

one_true : (a b : Bool) → (a || b) ≡ true → (a ≡ true) ⊎ (b ≡ true)
one_true true b e = inl refl
one_true false b e = inr e

flipped : (a b : Bool) → not a ≡ b → a ≡ not b
flipped true b e = ap not e
flipped false b e = ap not e

of_either : (firsts seconds : List Way) (P Q : Type 0) → (P → StartsFree firsts) → (Q → StartsFree seconds) → P ⊎ Q → StartsFree (fewest (firsts ++ seconds))
of_either firsts seconds P Q one other (inl p) = fewest_free (firsts ++ seconds) (in_first firsts seconds (one_free firsts (one p)))
of_either firsts seconds P Q one other (inr q) = fewest_free (firsts ++ seconds) (in_second firsts seconds (one_free seconds (other q)))

said_free : (guid : Guid) (there is_so : Bool) → is_so ≡ true → StartsFree (says guid there is_so)
said_free guid there true is = refl
said_free guid there false is = absurd (cc)

pub starts_free : (has : Guid → Bool) (want : Bool) (node : DepexTree) → truth has node ≡ want → StartsFree (ways has want node)
starts_free has true True e = refl
starts_free has false True e = absurd (cc)
starts_free has true False e = absurd (cc)
starts_free has false False e = refl
starts_free has true (Push guid) e = said_free guid true (has guid) e
starts_free has false (Push guid) e = said_free guid false (not (has guid)) (ap not e)
starts_free has true (Not node) e = starts_free has false node (flipped (truth has node) true e)
starts_free has false (Not node) e = starts_free has true node (flipped (truth has node) false e)
starts_free has true (And first second) e =
    let both = both_true (truth has first) (truth has second) e in
    fewest_free (crossed (ways has true first) (ways has true second))
    (crossed_free has (ways has true first) (ways has true second) (each_knows has true first) (each_knows has true second) (starts_free has true first both.0) (starts_free has true second both.1))
starts_free has false (And first second) e =
    of_either (ways has false first) (ways has false second) (truth has first ≡ false) (truth has second ≡ false) (starts_free has false first) (starts_free has false second)
    (one_false (truth has first) (truth has second) e)
starts_free has true (Or first second) e =
    of_either (ways has true first) (ways has true second) (truth has first ≡ true) (truth has second ≡ true) (starts_free has true first) (starts_free has true second)
    (one_true (truth has first) (truth has second) e)
starts_free has false (Or first second) e =
    let both = both_false (truth has first) (truth has second) e in
    fewest_free (crossed (ways has false first) (ways has false second))
    (crossed_free has (ways has false first) (ways has false second) (each_knows has false first) (each_knows has false second) (starts_free has false first both.0) (starts_free has false second both.1))

none_wanted : (there : Bool) (way : Way) → cost way ≡ 0 → wanted there way ≡ []
none_wanted there [] free = refl
none_wanted there (literal ∷ way) free =
    let both = free_literal literal way free in
    ap (λ b. map (λ (other : Literal). other.guid) (cond (not b && same_truth there literal.there) (literal ∷ filter (is_wanted there) way) (filter (is_wanted there) way))) both.0 ∙ none_wanted there way both.1

pub holds_as_it_is : (has : Guid → Bool) (node : DepexTree) → truth has node ≡ true → option_map change_by (first_way (ways has true node)) ≡ Some (record { would = []; unless = [] })
holds_as_it_is has node e = by (ways has true node) (starts_free has true node e)
  where
    by : (these : List Way) → StartsFree these → option_map change_by (first_way these) ≡ Some (record { would = []; unless = [] })
    by [] free = absurd free
    by (way ∷ others) free = λ j. Some (record { would = none_wanted true way free j; unless = none_wanted false way free j })
