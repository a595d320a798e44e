-- What tests of ranges tell of the addresses of a stretch.
use Rattle.std.proofs.Common.{inl, inr, ℕ, zero, suc, ◌+◌, ◌<◌, ◌≤◌, ◌^◌, Bool, true, false, MatchBool, List, [], ◌∷◌, length, take, drop, get_or, sym, subst, arith}
use Rattle.pi_base.specs.Lists.{Each}
use Rattle.gcd_map.specs.{declared.state.SpaceState.SpaceState, declared.need.Need.Need, declared.range.GcdRange.GcdRange}
use Rattle.gcd_map.specs.{Stretch.AllIn, Stretch.SomeIn, Ranges.Cover, Ranges.DoesFit}
use Rattle.gcd_map.specs.Tests.{Meets, Misses, EachMeets, SomeMisses, IsRangeOf}
use Rattle.gcd_map.proofs.Covers.{below_or, cover_order, IsBelowFirst, below_first}
use Rattle.gcd_map.proofs.Changes.{Parts, parts}

-- an answer for the rest is one for all
abbrev pub Carries : Need → ℕ → List GcdRange → List GcdRange → Type 0
Carries need end ranges rest = (EachMeets need end rest → EachMeets need end ranges) × (SomeMisses need end rest → SomeMisses need end ranges)

-- ranges that cover addresses below 2 ^ 64 fit
pub covers_fit : (space : ℕ → SpaceState) (from to : ℕ) (xs : List GcdRange) → Cover space from xs to → to < 2 ^ 64 → Each DoesFit xs
covers_fit space from to [] c less = tt
covers_fit space from to (x ∷ xs) c less =
    (omega (arith, c.0, less, cover_order space (from + x.len) to xs c.3), covers_fit space (from + x.len) to xs c.3 less)

meets_all : (space : ℕ → SpaceState) (from limit : ℕ) (xs : List GcdRange) (need : Need) (end : ℕ) → Cover space from xs limit → end ≤ limit → EachMeets need end xs → AllIn space from end (Meets need)
meets_all space from limit [] need end c within e n low high = absurd (omega (arith, c, within, low, high))
meets_all space from limit (x ∷ xs) need end c within e n low high =
    let here = e (omega (arith, c.0, low, high)) in
    elim (below_or n (from + x.len)) [
      | inl h ↦ subst (Meets need) (sym (c.2 n low h)) here.0
      | inr h ↦ meets_all space (from + x.len) limit xs need end c.3 within here.1 n h high
    ]

misses_some : (space : ℕ → SpaceState) (from limit : ℕ) (xs : List GcdRange) (need : Need) (end : ℕ) → Cover space from xs limit → SomeMisses need end xs → SomeIn space from end (Misses need)
misses_some space from limit [] need end c s = absurd s
misses_some space from limit (x ∷ xs) need end c s = elim s.1 [
  | inl h ↦ (from, omega arith, omega (arith, s.0, c.0), subst (Misses need) (sym (c.2 from (omega arith) (omega (arith, c.1)))) h)
  | inr h ↦ let w = misses_some space (from + x.len) limit xs need end c.3 h in (w.0, omega (arith, w.1), w.2, w.3)
]

-- of ranges of which the first has the base
misses_from : (space : ℕ → SpaceState) (from limit : ℕ) (xs : List GcdRange) (need : Need) (base end : ℕ) → Cover space from xs limit → from ≤ base → base < end → IsBelowFirst xs from base
    → SomeMisses need end xs → SomeIn space base end (Misses need)
misses_from space from limit [] need base end c order less first s = absurd s
misses_from space from limit (x ∷ xs) need base end c order less first s = elim s.1 [
  | inl h ↦ (base, omega arith, less, subst (Misses need) (sym (c.2 base order first)) h)
  | inr h ↦ let w = misses_some space (from + x.len) limit xs need end c.3 h in (w.0, omega (arith, w.1, first), w.2, w.3)
]

-- a test of the ranges from that of the base on tells of the stretch
pub tells : (space : ℕ → SpaceState) (limit : ℕ) (ranges : List GcdRange) (need : Need) (base end at : ℕ) (result : Bool) → Cover space 0 ranges limit → base < end → end ≤ limit
    → IsRangeOf ranges base at → MatchBool result (EachMeets need end (drop at ranges)) (SomeMisses need end (drop at ranges))
    → MatchBool result (AllIn space base end (Meets need)) (SomeIn space base end (Misses need))
tells space limit ranges need base end at true c less within is e =
    let cut : Parts space limit base ranges at = parts space limit base ranges at c is.0 is.1 in
    λ n low high. meets_all space cut.mid limit (drop at ranges) need end cut.back within e n (omega (arith, low, cut.order)) high
tells space limit ranges need base end at false c less within is e =
    let cut : Parts space limit base ranges at = parts space limit base ranges at c is.0 is.1 in
    misses_from space cut.mid limit (drop at ranges) need base end cut.back cut.order less
    (below_first space cut.mid limit base ranges at is.0 is.2 cut.back (omega (arith, less, within))) e

pub each_drop : (P : GcdRange → Type 0) (xs : List GcdRange) (at : ℕ) → Each P xs → Each P (drop at xs)
each_drop P [] zero e = tt
each_drop P [] (suc at) e = tt
each_drop P (x ∷ xs) zero e = e
each_drop P (x ∷ xs) (suc at) e = each_drop P xs at e.1

pub each_at : (P : GcdRange → Type 0) (xs : List GcdRange) (at : ℕ) (d : GcdRange) → at < length xs → Each P xs → P (get_or xs at d)
each_at P [] at d less e = absurd (omega (arith, less))
each_at P (x ∷ xs) zero d less e = e.0
each_at P (x ∷ xs) (suc at) d less e = each_at P xs at d (omega (arith, less)) e.1

pub each_take : (P : GcdRange → Type 0) (xs : List GcdRange) (at : ℕ) → Each P xs → Each P (take at xs)
each_take P [] zero e = tt
each_take P [] (suc at) e = tt
each_take P (x ∷ xs) zero e = tt
each_take P (x ∷ xs) (suc at) e = (e.0, each_take P xs at e.1)
