-- Each way says one thing of each GUID, and knows whether it is so.
use Rattle.std.proofs.Common.{◌≡◌, Bool, true, false, not, cond, List, [], ◌∷◌, ◌++◌, Option, Some, None, refl, sym, ap, ◌∙◌, subst, option_and_then}
use Rattle.pi_base.specs.{declared.guid.Guid.Guid, Guids.same_guid, Lists.Each, Lists.Ordered}
use Rattle.pi_base.proofs.ListFacts.{each_append, each_more, ordered_append}
use Rattle.depex_code.specs.Tree.{DepexTree, True, False, Push, Not, And, Or}
use Rattle.explain_text.specs.{declared.ways.literal.Literal.Literal, Change.SaysOnce}
use Rattle.explain_text.specs.Ways.{Way, added_by, crossed, joined, said_of, same_truth, ways}
use Rattle.explain_text.proofs.WayLists.{each_crossed, each_fewest}

-- each way says one thing of each GUID

unsaid : (way : Way) (guid : Guid) → said_of way guid ≡ None → Each (λ other. same_guid other.guid guid ≡ false) way
unsaid [] guid is = tt
unsaid (literal ∷ way) guid is = by (same_guid literal.guid guid) refl (unsaid way guid) is
  where
    by : (b : Bool) → same_guid literal.guid guid ≡ b → (said_of way guid ≡ None → Each (λ other. same_guid other.guid guid ≡ false) way)
        → cond b (Some literal.there) (said_of way guid) ≡ None → Each (λ other. same_guid other.guid guid ≡ false) (literal ∷ way)
    by true same later is = absurd (cc)
    by false apart later is = (apart, later is)

pub joined_once : (way others more : Way) → joined way others ≡ Some more → SaysOnce way → SaysOnce more
joined_once way [] more is once = let same : way ≡ more = cc in subst SaysOnce same once
joined_once way (literal ∷ others) more is once =
    by (said_of way literal.guid) refl (λ k. joined_once (way ++ literal ∷ []) others more k) (λ k. joined_once way others more k once) is
  where
    told : (there b : Bool) → same_truth there literal.there ≡ b → (joined way others ≡ Some more → SaysOnce more)
        → option_and_then (λ more. joined more others) (cond b (Some way) None) ≡ Some more → SaysOnce more
    told there true same later is = later is
    told there false same later is = absurd (cc)

    by : (o : Option Bool) → said_of way literal.guid ≡ o → (joined (way ++ literal ∷ []) others ≡ Some more → SaysOnce (way ++ literal ∷ []) → SaysOnce more)
        → (joined way others ≡ Some more → SaysOnce more) → option_and_then (λ more. joined more others) (added_by way literal o) ≡ Some more → SaysOnce more
    by None said grown later is =
        grown is
        (ordered_append (λ a b. same_guid a.guid b.guid ≡ false) way (literal ∷ []) once (tt, tt)
        (each_more (λ other. same_guid other.guid literal.guid ≡ false) (λ other. Each (λ b. same_guid other.guid b.guid ≡ false) (literal ∷ [])) way (λ other apart. (apart, tt)) (unsaid way literal.guid said)))
    by (Some there) said grown later is = told there (same_truth there literal.there) refl later is

pub each_once : (has : Guid → Bool) (want : Bool) (node : DepexTree) → Each SaysOnce (ways has want node)
each_once has true True = (tt, tt)
each_once has false True = tt
each_once has true False = tt
each_once has false False = (tt, tt)
each_once has true (Push guid) = ((tt, tt), tt)
each_once has false (Push guid) = ((tt, tt), tt)
each_once has true (Not node) = each_once has false node
each_once has false (Not node) = each_once has true node
each_once has true (And first second) =
    each_fewest SaysOnce (crossed (ways has true first) (ways has true second))
    (each_crossed SaysOnce SaysOnce SaysOnce (ways has true first) (ways has true second) (λ a b more left right is. joined_once a b more is left) (each_once has true first) (each_once has true second))
each_once has false (And first second) =
    each_fewest SaysOnce (ways has false first ++ ways has false second) (each_append SaysOnce (ways has false first) (ways has false second) (each_once has false first) (each_once has false second))
each_once has true (Or first second) =
    each_fewest SaysOnce (ways has true first ++ ways has true second) (each_append SaysOnce (ways has true first) (ways has true second) (each_once has true first) (each_once has true second))
each_once has false (Or first second) =
    each_fewest SaysOnce (crossed (ways has false first) (ways has false second))
    (each_crossed SaysOnce SaysOnce SaysOnce (ways has false first) (ways has false second) (λ a b more left right is. joined_once a b more is left) (each_once has false first) (each_once has false second))

-- each way knows whether what it says is so

abbrev pub IsKnown : (Guid → Bool) → Literal → Type 0
IsKnown has literal = literal.is_so ≡ same_truth (has literal.guid) literal.there

abbrev pub Knows : (Guid → Bool) → Way → Type 0
Knows has way = Each (IsKnown has) way

pub joined_each : (P : Literal → Type 0) (way others more : Way) → joined way others ≡ Some more → Each P way → Each P others → Each P more
joined_each P way [] more is left right = let same : way ≡ more = cc in subst (Each P) same left
joined_each P way (literal ∷ others) more is left right =
    by (said_of way literal.guid) (λ k e. joined_each P (way ++ literal ∷ []) others more k e right.1) (λ k. joined_each P way others more k left right.1) is
  where
    told : (b : Bool) → (joined way others ≡ Some more → Each P more) → option_and_then (λ more. joined more others) (cond b (Some way) None) ≡ Some more → Each P more
    told true later is = later is
    told false later is = absurd (cc)

    by : (o : Option Bool) → (joined (way ++ literal ∷ []) others ≡ Some more → Each P (way ++ literal ∷ []) → Each P more) → (joined way others ≡ Some more → Each P more)
        → option_and_then (λ more. joined more others) (added_by way literal o) ≡ Some more → Each P more
    by None grown later is = grown is (each_append P way (literal ∷ []) left (right.0, tt))
    by (Some there) grown later is = told (same_truth there literal.there) later is

here : (b : Bool) → b ≡ same_truth b true
here true = refl
here false = refl

gone : (b : Bool) → not b ≡ same_truth b false
gone true = refl
gone false = refl

pub each_knows : (has : Guid → Bool) (want : Bool) (node : DepexTree) → Each (Knows has) (ways has want node)
each_knows has true True = (tt, tt)
each_knows has false True = tt
each_knows has true False = tt
each_knows has false False = (tt, tt)
each_knows has true (Push guid) = ((here (has guid), tt), tt)
each_knows has false (Push guid) = ((gone (has guid), tt), tt)
each_knows has true (Not node) = each_knows has false node
each_knows has false (Not node) = each_knows has true node
each_knows has true (And first second) =
    each_fewest (Knows has) (crossed (ways has true first) (ways has true second))
    (each_crossed (Knows has) (Knows has) (Knows has) (ways has true first) (ways has true second) (λ a b more left right is. joined_each (IsKnown has) a b more is left right) (each_knows has true first) (each_knows has true second))
each_knows has false (And first second) =
    each_fewest (Knows has) (ways has false first ++ ways has false second) (each_append (Knows has) (ways has false first) (ways has false second) (each_knows has false first) (each_knows has false second))
each_knows has true (Or first second) =
    each_fewest (Knows has) (ways has true first ++ ways has true second) (each_append (Knows has) (ways has true first) (ways has true second) (each_knows has true first) (each_knows has true second))
each_knows has false (Or first second) =
    each_fewest (Knows has) (crossed (ways has false first) (ways has false second))
    (each_crossed (Knows has) (Knows has) (Knows has) (ways has false first) (ways has false second) (λ a b more left right is. joined_each (IsKnown has) a b more is left right) (each_knows has false first) (each_knows has false second))
