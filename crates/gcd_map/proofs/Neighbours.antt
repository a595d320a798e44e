-- Neighbours that differ.
use Rattle.std.proofs.Common.{◌≡◌, List, [], ◌∷◌, ◌++◌, refl, sym, ap, ◌∙◌, subst}
use Rattle.gcd_map.specs.{declared.state.SpaceState.SpaceState, declared.range.GcdRange.GcdRange, Growing.EndsOther, Growing.EndsWith}
use Rattle.gcd_map.specs.Ranges.{state_of, BeginsOther, Differ}

pub differ_more : (xs : List GcdRange) (r : GcdRange) → Differ xs → EndsOther xs (state_of r) → Differ (xs ++ r ∷ [])
differ_more [] r d other = (tt, tt)
differ_more (x ∷ []) r d other = (other [] x refl, (tt, tt))
differ_more (x ∷ y ∷ xs) r d other =
    (d.0, differ_more (y ∷ xs) r d.1 (λ front last e. other (x ∷ front) last (ap (λ (l : List GcdRange). x ∷ l) e)))

-- another last range of the same state
pub differ_last : (xs : List GcdRange) (a b : GcdRange) → state_of a ≡ state_of b → Differ (xs ++ a ∷ []) → Differ (xs ++ b ∷ [])
differ_last [] a b same d = (tt, tt)
differ_last (x ∷ []) a b same d = ((λ (e : state_of x ≡ state_of b). d.0 (e ∙ sym same)), (tt, tt))
differ_last (x ∷ y ∷ xs) a b same d = (d.0, differ_last (y ∷ xs) a b same d.1)

joined : (xs : List GcdRange) (last : GcdRange) (ys : List GcdRange) → Differ (xs ++ last ∷ []) → BeginsOther (state_of last) ys → Differ ys → Differ ((xs ++ last ∷ []) ++ ys)
joined [] last ys d other e = (other, e)
joined (x ∷ []) last ys d other e = (d.0, joined [] last ys d.1 other e)
joined (x ∷ y ∷ xs) last ys d other e = (d.0, joined (y ∷ xs) last ys d.1 other e)

-- two lists, of which the second begins with another state than the first ends with
pub differ_append : (xs ys : List GcdRange) (state : SpaceState) → EndsWith xs state → BeginsOther state ys → Differ xs → Differ ys → Differ (xs ++ ys)
differ_append xs ys state ends other d e =
    let P : SpaceState → Type 0 = λ s. BeginsOther s ys in
    let Q : List GcdRange → Type 0 = λ l. Differ (l ++ ys) in
    subst Q (sym ends.2) (joined ends.0 ends.1 ys (subst Differ ends.2 d) (subst P (sym ends.3) other) e)

pub differ_back : (xs ys : List GcdRange) → Differ (xs ++ ys) → Differ ys
differ_back [] ys d = d
differ_back (x ∷ xs) ys d = differ_back xs ys d.1
