-- Each way of a tree is enough, whatever else is installed.
use Rattle.std.proofs.Common.{◌≡◌, Bool, true, false, ◌||◌, ◌&&◌, not, cond, List, [], ◌∷◌, ◌++◌, Option, Some, None, refl, sym, ap, ◌∙◌, subst, option_and_then}
use Rattle.std.proofs.lemmas.Slice.Eq.{bytes_eq-Decides}
use Rattle.pi_base.specs.{declared.guid.Guid.Guid, Guids.same_guid, Lists.Each}
use Rattle.pi_base.proofs.ListFacts.{each_append, each_more}
use Rattle.depex_code.specs.Tree.{DepexTree, True, False, Push, Not, And, Or, truth}
use Rattle.explain_text.specs.{declared.ways.literal.Literal.Literal, Change.Agrees, Change.Makes}
use Rattle.explain_text.specs.Ways.{Way, added, added_by, crossed, joined, said_of, same_truth, ways}
use Rattle.explain_text.proofs.WayLists.{each_crossed, each_fewest, split}

-- GUIDs

same_is : (a b : Guid) → same_guid a b ≡ true → a ≡ b
same_is a b e = ap (λ bytes. record { 0 = bytes }) ((bytes_eq-Decides a.0 b.0).0 e)

same_truth_is : (a b : Bool) → same_truth a b ≡ true → a ≡ b
same_truth_is true true e = refl
same_truth_is true false e = absurd (cc)
same_truth_is false true e = absurd (cc)
same_truth_is false false e = refl

-- what a way says is so where it agrees
pub said_agrees : (new : Guid → Bool) (way : Way) (guid : Guid) (there : Bool) → said_of way guid ≡ Some there → Agrees new way → new guid ≡ there
said_agrees new [] guid there is e = absurd (cc)
said_agrees new (literal ∷ way) guid there is e = by (same_guid literal.guid guid) refl (λ k. said_agrees new way guid there k e.1) is
  where
    by : (b : Bool) → same_guid literal.guid guid ≡ b → (said_of way guid ≡ Some there → new guid ≡ there) → cond b (Some literal.there) (said_of way guid) ≡ Some there → new guid ≡ there
    by true same later is = let a : literal.there ≡ there = cc in ap new (sym (same_is literal.guid guid same)) ∙ e.0 ∙ a
    by false apart later is = later is

-- where the two in one agree, each does
joined_agree : (new : Guid → Bool) (way others more : Way) → joined way others ≡ Some more → Agrees new more → Agrees new way × Agrees new others
joined_agree new way [] more is e = let same : way ≡ more = cc in (subst (Agrees new) (sym same) e, tt)
joined_agree new way (literal ∷ others) more is e =
    by (said_of way literal.guid) refl (λ k. joined_agree new (way ++ literal ∷ []) others more k e) (λ k. joined_agree new way others more k e) is
  where
    told : (there b : Bool) → said_of way literal.guid ≡ Some there → same_truth there literal.there ≡ b → (joined way others ≡ Some more → Agrees new way × Agrees new others)
        → option_and_then (λ more. joined more others) (cond b (Some way) None) ≡ Some more → Agrees new way × Agrees new (literal ∷ others)
    told there true said same later is =
        let rest = later is in
        (rest.0, (said_agrees new way literal.guid there said rest.0 ∙ same_truth_is there literal.there same, rest.1))
    told there false said same later is = absurd (cc)

    by : (o : Option Bool) → said_of way literal.guid ≡ o
        → (joined (way ++ literal ∷ []) others ≡ Some more → Agrees new (way ++ literal ∷ []) × Agrees new others) → (joined way others ≡ Some more → Agrees new way × Agrees new others)
        → option_and_then (λ more. joined more others) (added_by way literal o) ≡ Some more → Agrees new way × Agrees new (literal ∷ others)
    by None said grown later is =
        let rest = grown is in
        let parts = split (λ other. new other.guid ≡ other.there) way (literal ∷ []) rest.0 in
        (parts.0, (parts.1.0, rest.1))
    by (Some there) said grown later is = told there (same_truth there literal.there) said refl later is

-- each way is enough

not_not : (b : Bool) → not (not b) ≡ b
not_not true = refl
not_not false = refl

or_true : (b : Bool) → (b || true) ≡ true
or_true true = refl
or_true false = refl

and_false : (b : Bool) → (b && false) ≡ false
and_false true = refl
and_false false = refl

pub is_enough : (has : Guid → Bool) (want : Bool) (node : DepexTree) → Each (Makes want node) (ways has want node)
is_enough has true True = ((λ new a. refl), tt)
is_enough has false True = tt
is_enough has true False = tt
is_enough has false False = ((λ new a. refl), tt)
is_enough has true (Push guid) = ((λ new a. a.0), tt)
is_enough has false (Push guid) = ((λ new a. a.0), tt)
is_enough has true (Not node) = each_more (Makes false node) (Makes true (Not node)) (ways has false node) (λ way makes new a. ap not (makes new a)) (is_enough has false node)
is_enough has false (Not node) = each_more (Makes true node) (Makes false (Not node)) (ways has true node) (λ way makes new a. ap not (makes new a)) (is_enough has true node)
is_enough has true (And first second) =
    each_fewest (Makes true (And first second)) (crossed (ways has true first) (ways has true second))
    (each_crossed (Makes true first) (Makes true second) (Makes true (And first second)) (ways has true first) (ways has true second)
    (λ a b more left right is new agrees. let both = joined_agree new a b more is agrees in ap (λ t. t && truth new second) (left new both.0) ∙ right new both.1)
    (is_enough has true first) (is_enough has true second))
is_enough has false (And first second) =
    each_fewest (Makes false (And first second)) (ways has false first ++ ways has false second)
    (each_append (Makes false (And first second)) (ways has false first) (ways has false second)
    (each_more (Makes false first) (Makes false (And first second)) (ways has false first) (λ way makes new a. ap (λ t. t && truth new second) (makes new a)) (is_enough has false first))
    (each_more (Makes false second) (Makes false (And first second)) (ways has false second) (λ way makes new a. ap (λ t. truth new first && t) (makes new a) ∙ and_false (truth new first)) (is_enough has false second)))
is_enough has true (Or first second) =
    each_fewest (Makes true (Or first second)) (ways has true first ++ ways has true second)
    (each_append (Makes true (Or first second)) (ways has true first) (ways has true second)
    (each_more (Makes true first) (Makes true (Or first second)) (ways has true first) (λ way makes new a. ap (λ t. t || truth new second) (makes new a)) (is_enough has true first))
    (each_more (Makes true second) (Makes true (Or first second)) (ways has true second) (λ way makes new a. ap (λ t. truth new first || t) (makes new a) ∙ or_true (truth new first)) (is_enough has true second)))
is_enough has false (Or first second) =
    each_fewest (Makes false (Or first second)) (crossed (ways has false first) (ways has false second))
    (each_crossed (Makes false first) (Makes false second) (Makes false (Or first second)) (ways has false first) (ways has false second)
    (λ a b more left right is new agrees. let both = joined_agree new a b more is agrees in ap (λ t. t || truth new second) (left new both.0) ∙ right new both.1)
    (is_enough has false first) (is_enough has false second))
