-- What holds of each way of some holds of each that is made of them.
use Rattle.std.proofs.Common.{◌≡◌, ℕ, zero, suc, Bool, true, false, cond, nat_lt, List, [], ◌∷◌, ◌++◌, take, fold, Option, Some, None, refl, option_to_list}
use Rattle.pi_base.specs.Lists.{Each}
use Rattle.pi_base.proofs.ListFacts.{each_append}
use Rattle.explain_text.specs.{declared.ways.literal.Literal.Literal, declared.ways.cheapest.TheConstants.MOST_WAYS}
use Rattle.explain_text.specs.Ways.{Way, by_cost, cost, crossed, fewest, joined, joined_with, placed}

each_placed : (P : Way → Type 0) (way : Way) (others : List Way) → P way → Each P others → Each P (placed way others)
each_placed P way [] p e = (p, tt)
each_placed P way (other ∷ others) p e = by (nat_lt (cost way) (cost other)) (each_placed P way others p e.1)
  where
    by : (b : Bool) → Each P (placed way others) → Each P (cond b (way ∷ other ∷ others) (other ∷ placed way others))
    by true later = (p, e)
    by false later = (e.0, later)

each_sorted : (P : Way → Type 0) (sorted these : List Way) → Each P sorted → Each P these → Each P (fold (λ found way. placed way found) sorted these)
each_sorted P sorted [] s e = s
each_sorted P sorted (way ∷ these) s e = each_sorted P (placed way sorted) these (each_placed P way sorted e.0 s) e.1

each_taken : (P : Way → Type 0) (n : ℕ) (these : List Way) → Each P these → Each P (take n these)
each_taken P zero these e = tt
each_taken P (suc n) [] e = tt
each_taken P (suc n) (way ∷ these) e = (e.0, each_taken P n these e.1)

pub each_fewest : (P : Way → Type 0) (these : List Way) → Each P these → Each P (fewest these)
each_fewest P these e = each_taken P MOST_WAYS (by_cost these) (each_sorted P [] these tt e)

each_joined : (Q R : Way → Type 0) (first : Way) (seconds : List Way) → ((second more : Way) → Q second → joined first second ≡ Some more → R more)
    → Each Q seconds → Each R (joined_with seconds first)
each_joined Q R first [] on e = tt
each_joined Q R first (second ∷ seconds) on e = each_append R (option_to_list (joined first second)) (joined_with seconds first) (by (joined first second) refl) (each_joined Q R first seconds on e.1)
  where
    by : (o : Option Way) → joined first second ≡ o → Each R (option_to_list o)
    by None is = tt
    by (Some more) is = (on second more e.0 is, tt)

pub each_crossed : (P Q R : Way → Type 0) (firsts seconds : List Way) → ((first second more : Way) → P first → Q second → joined first second ≡ Some more → R more)
    → Each P firsts → Each Q seconds → Each R (crossed firsts seconds)
each_crossed P Q R [] seconds on p q = tt
each_crossed P Q R (first ∷ firsts) seconds on p q =
    each_append R (joined_with seconds first) (crossed firsts seconds) (each_joined Q R first seconds (λ second more. on first second more p.0) q) (each_crossed P Q R firsts seconds on p.1 q)

pub split : (P : Literal → Type 0) (xs ys : Way) → Each P (xs ++ ys) → Each P xs × Each P ys
split P [] ys e = (tt, e)
split P (x ∷ xs) ys e = let rest = split P xs ys e.1 in ((e.0, rest.0), rest.1)
