-- Ranges in the place of some that a change meets.
use Rattle.std.proofs.Common.{◌≡◌, ◌⊎◌, inl, inr, ℕ, suc, ◌+◌, ◌<◌, ◌≤◌, List, [], ◌∷◌, ◌++◌, length, take, drop, refl, sym, ap, ◌∙◌, subst, arith, take-append-drop, drop-drop, append-nil}
use Rattle.std.specs.List.{splice}
use Rattle.std.proofs.lemmas.List.{drop_all}
use Rattle.gcd_map.specs.{declared.state.SpaceState.SpaceState, declared.state.Effect.Effect, declared.range.GcdRange.GcdRange}
use Rattle.gcd_map.specs.Ranges.{Cover, Differ, BeginsOther, state_of}
use Rattle.gcd_map.specs.Growing.{BeginsWith, EndsWith, Replaces, after}
use Rattle.gcd_map.specs.Tests.{base_at, IsRangeOf}
use Rattle.gcd_map.proofs.Covers.{below_or, cover_append, Split, cover_split, cover_same, base_here, base_drop, begins_low}
use Rattle.gcd_map.proofs.Neighbours.{differ_append, differ_back}
use Rattle.gcd_map.proofs.Changes.{unchanged_below, unchanged_behind, begins_more, Parts, parts}

-- a list that has a last item
record HasLast (xs : List GcdRange) : Type 0 where
  pub front : List GcdRange
  pub last : GcdRange
  pub is : xs ≡ front ++ last ∷ []

last_of : (x : GcdRange) (xs : List GcdRange) → HasLast (x ∷ xs)
last_of x [] = record { front = []; last = x; is = refl }
last_of x (y ∷ xs) = let rest = last_of y xs in record { front = x ∷ rest.front; last = rest.last; is = ap (λ (l : List GcdRange). x ∷ l) rest.is }

-- the last of some ranges differs from the first behind them
differ_joint : (front : List GcdRange) (last : GcdRange) (back : List GcdRange) → Differ ((front ++ last ∷ []) ++ back) → BeginsOther (state_of last) back
differ_joint [] last back d = d.0
differ_joint (x ∷ front) last back d = differ_joint front last back d.1

begin_alike : (state first : SpaceState) (ys zs : List GcdRange) → BeginsWith ys first → BeginsWith zs first → BeginsOther state ys → BeginsOther state zs
begin_alike state first [] zs b c other = absurd b
begin_alike state first (y ∷ ys) [] b c other = tt
begin_alike state first (y ∷ ys) (z ∷ zs) b c other = λ (e : state ≡ state_of z). other (e ∙ c ∙ sym b)

-- what begins alike stands alike behind others
differ_first : (front ys zs : List GcdRange) (first : SpaceState) → BeginsWith ys first → BeginsWith zs first → Differ (front ++ ys) → Differ zs → Differ (front ++ zs)
differ_first [] ys zs first b c d e = e
differ_first (x ∷ []) ys zs first b c d e = (begin_alike (state_of x) first ys zs b c d.0, e)
differ_first (x ∷ y ∷ front) ys zs first b c d e = (d.0, differ_first (y ∷ front) ys zs first b c d.1 e)

-- the ranges in the place of some keep the neighbours apart, behind them
differ_behind : (space : ℕ → SpaceState) (from to : ℕ) (base end : ℕ) (effect : Effect) (first : GcdRange) (old back new : List GcdRange) → Cover space from (first ∷ old) to → end < to
    → Replaces (first ∷ old) base end effect new → Differ ((first ∷ old) ++ back) → Differ (new ++ back)
differ_behind space from to base end effect first old back new c less so d =
    let l : HasLast (first ∷ old) = last_of first old in
    let cut : Split space from to l.front (l.last ∷ []) = cover_split space from to l.front (l.last ∷ []) (subst (λ (xs : List GcdRange). Cover space from xs to) l.is c) in
    let here : l.last.base ≡ cut.mid = cut.back.0 in
    let ends : cut.mid + l.last.len ≡ to = cut.back.3 in
    let with_last : EndsWith new (state_of l.last) = so.ends l.front l.last l.is cut.back.1 (omega (arith, here, ends, less)) in
    let other : BeginsOther (state_of l.last) back = differ_joint l.front l.last back (subst (λ (xs : List GcdRange). Differ (xs ++ back)) l.is d) in
    differ_append new back (state_of l.last) with_last other so.differ (differ_back (first ∷ old) back d)

differ_all : (space : ℕ → SpaceState) (from to limit : ℕ) (base end : ℕ) (effect : Effect) (first : GcdRange) (old back new : List GcdRange) → Cover space from (first ∷ old) to
    → (end < to) ⊎ (back ≡ []) → Replaces (first ∷ old) base end effect new → Differ ((first ∷ old) ++ back) → Differ (new ++ back)
differ_all space from to limit base end effect first old back new c (inl less) so d = differ_behind space from to base end effect first old back new c less so d
differ_all space from to limit base end effect first old back new c (inr none) so d = subst (λ (l : List GcdRange). Differ (new ++ l)) (sym none) (subst Differ (sym (append-nil new)) so.differ)

-- front, replaced ranges and back
differ_whole : (space : ℕ → SpaceState) (from to limit : ℕ) (base end : ℕ) (effect : Effect) (front old back new : List GcdRange) → from < to → Cover space from old to
    → (front ≡ []) ⊎ (from < base) → (end < to) ⊎ (back ≡ []) → Replaces old base end effect new → Differ (front ++ (old ++ back)) → Differ (front ++ (new ++ back))
differ_whole space from to limit base end effect front [] back new some c before behind so d = absurd (omega (arith, some, c))
differ_whole space from to limit base end effect front (first ∷ old) back new some c (inl none) behind so d =
    let e : Differ (new ++ back) = differ_all space from to limit base end effect first old back new c behind so (differ_back front ((first ∷ old) ++ back) d) in
    subst (λ (l : List GcdRange). Differ (l ++ (new ++ back))) (sym none) e
differ_whole space from to limit base end effect front (first ∷ old) back new some c (inr less) behind so d =
    let e : Differ (new ++ back) = differ_all space from to limit base end effect first old back new c behind so (differ_back front ((first ∷ old) ++ back) d) in
    let here : first.base ≡ from = c.0 in
    let b : BeginsWith new (state_of first) = so.begins first old refl c.1 (omega (arith, here, less)) in
    differ_first front ((first ∷ old) ++ back) (new ++ back) (state_of first) refl (begins_more new back (state_of first) b) d e

-- where the ranges that a change meets end
behind_or : (space : ℕ → SpaceState) (mid limit end last : ℕ) (rest : List GcdRange) → IsRangeOf rest end last → Cover space mid (drop (suc last) rest) limit → end ≤ limit
    → (end ≤ mid) × ((end < mid) ⊎ (drop (suc last) rest ≡ []))
behind_or space mid limit end last rest is c within = elim (below_or (suc last) (length rest)) [
  | inl h ↦
      let here : base_at rest (suc last) ≡ mid = base_here space mid limit rest (suc last) h c in
      let above : end < base_at rest (suc last) = is.2 h in
      (omega (arith, here, above), inl (omega (arith, here, above)))
  | inr h ↦
      let none : drop (suc last) rest ≡ [] = drop_all (suc last) rest h in
      let at_end : mid ≡ limit = subst (λ (l : List GcdRange). Cover space mid l limit) none c in
      (omega (arith, at_end, within), inr none)
]

take_none : (at : ℕ) (ranges : List GcdRange) → at ≡ 0 → take at ranges ≡ []
take_none at ranges e = ap (λ (n : ℕ). take n ranges) e

low_enough : (space : ℕ → SpaceState) (limit base : ℕ) (ranges : List GcdRange) (at : ℕ) → Cover space 0 ranges limit → (at ≡ 0) ⊎ (base_at ranges at < base) → base_at ranges at ≤ base
low_enough space limit base ranges at c (inl e) = subst (λ (n : ℕ). base_at ranges n ≤ base) (sym e) (begins_low space limit ranges base c)
low_enough space limit base ranges at c (inr less) = omega (arith, less)

replaced_whole : (space : ℕ → SpaceState) (limit base end : ℕ) (effect : Effect) (ranges : List GcdRange) (at last : ℕ) (new : List GcdRange) → base < end → end ≤ limit → Cover space 0 ranges limit
    → at < length ranges → (at ≡ 0) ⊎ (base_at ranges at < base) → IsRangeOf (drop at ranges) end last → Replaces (take (suc last) (drop at ranges)) base end effect new
    → Cover (after space base end effect) 0 (splice ranges at (at + suc last) new) limit × (Differ ranges → Differ (splice ranges at (at + suc last) new))
replaced_whole space limit base end effect ranges at last new order within c less before is so =
    let front = take at ranges in let rest = drop at ranges in let old = take (suc last) rest in let back = drop (suc last) rest in
    let s : ℕ → SpaceState = after space base end effect in
    let cut : Parts space limit base ranges at = parts space limit base ranges at c less (low_enough space limit base ranges at c before) in
    let two : Split space cut.mid limit old back = cover_split space cut.mid limit old back (subst (λ (l : List GcdRange). Cover space cut.mid l limit) (sym (take-append-drop (suc last) rest)) cut.back) in
    let ends = behind_or space two.mid limit end last rest is two.back within in
    let beyond : drop (at + suc last) ranges ≡ back = sym (drop-drop (suc last) at ranges) in
    let put : splice ranges at (at + suc last) new ≡ front ++ (new ++ back) = ap (λ (l : List GcdRange). front ++ (new ++ l)) beyond in
    let begins : (front ≡ []) ⊎ (cut.mid < base) = elim before [
      | inl e ↦ inl (take_none at ranges e)
      | inr h ↦ let here : base_at ranges at ≡ cut.mid = base_here space cut.mid limit ranges at less cut.back in inr (omega (arith, h, here))
    ] in
    let some : cut.mid < two.mid = omega (arith, cut.order, order, ends.0) in (
      subst (λ (l : List GcdRange). Cover s 0 l limit) (sym put)
          (cover_append s 0 cut.mid limit front (new ++ back) (cover_same space s 0 cut.mid front (λ n low high. unchanged_below space base end effect n (omega (arith, high, cut.order))) cut.front)
          (cover_append s cut.mid two.mid limit new back (so.covers space cut.mid two.mid two.front)
          (cover_same space s two.mid limit back (λ n low high. unchanged_behind space base end effect n (omega (arith, order)) (omega (arith, low, ends.0))) two.back))),
      λ d.
          let cutted : Differ (front ++ (old ++ back)) =
          subst (λ (l : List GcdRange). Differ (front ++ l)) (sym (take-append-drop (suc last) rest)) (subst Differ (sym (take-append-drop at ranges)) d) in
          subst Differ (sym put) (differ_whole space cut.mid two.mid limit base end effect front old back new some two.front begins ends.1 so cutted),
    )

pub replaced : (space : ℕ → SpaceState) (limit base end : ℕ) (effect : Effect) (ranges : List GcdRange) (at last count : ℕ) (new : List GcdRange) → base < end → end ≤ limit → Cover space 0 ranges limit
    → at < length ranges → (at ≡ 0) ⊎ (base_at ranges at < base) → IsRangeOf (drop at ranges) end last → count ≡ suc last → Replaces (take count (drop at ranges)) base end effect new
    → Cover (after space base end effect) 0 (splice ranges at (at + count) new) limit × (Differ ranges → Differ (splice ranges at (at + count) new))
replaced space limit base end effect ranges at last count new order within c less before is e so =
    subst (λ (n : ℕ). Cover (after space base end effect) 0 (splice ranges at (at + n) new) limit × (Differ ranges → Differ (splice ranges at (at + n) new))) (sym e)
    (replaced_whole space limit base end effect ranges at last new order within c less before is (subst (λ (n : ℕ). Replaces (take n (drop at ranges)) base end effect new) e so))

-- the ranges that a change meets begin before it
pub rest_begins : (space : ℕ → SpaceState) (limit base end : ℕ) (ranges : List GcdRange) (at : ℕ) → Cover space 0 ranges limit → (at ≡ 0) ⊎ (base_at ranges at < base) → base < end → base_at (drop at ranges) 0 ≤ end
rest_begins space limit base end ranges at c before order = omega (arith, base_drop ranges at, low_enough space limit base ranges at c before, order)
