-- The highest base with room, over all ranges.
use Rattle.std.proofs.Common.{◌≡◌, inl, inr, ℕ, zero, suc, ◌+◌, ◌-◌, ◌*◌, ◌/◌, ◌%◌, ◌<◌, ◌≤◌, List, [], ◌∷◌, length, drop, get_or, Option, Some, None, refl, sym, ap, ◌∙◌, arith, div-add-mod'}
use Rattle.std.proofs.{lemmas.Nat.mod-mul-add, lemmas.Nat.le-div, Math.Nat.mul-le-mul_right}
use Rattle.gcd_map.specs.{declared.state.SpaceState.SpaceState, declared.range.GcdRange.GcdRange, Stretch.AllIn}
use Rattle.gcd_map.specs.Ranges.{Cover, Differ, state_of}
use Rattle.gcd_map.specs.Tests.{IsRoomIn, IsHighestIn, IsHighest}
use Rattle.gcd_map.proofs.Covers.{below_or, cover_order}

-- ranges before one that has a base do not matter
pub highest_front : (xs : List GcdRange) (at : ℕ) (state : SpaceState) (unit len base : ℕ) → IsHighest (drop at xs) state unit len (Some base) → IsHighest xs state unit len (Some base)
highest_front [] zero state unit len base h = h
highest_front [] (suc at) state unit len base h = h
highest_front (x ∷ xs) zero state unit len base h = h
highest_front (x ∷ xs) (suc at) state unit len base h = inl (base, refl, highest_front xs at state unit len base h)

-- a base with room for so many addresses of the state below the limit
abbrev pub Fits : (ℕ → SpaceState) → ℕ → SpaceState → ℕ → ℕ → ℕ → Type 0
Fits space limit state unit len base = (base % unit ≡ 0) × (base + len ≤ limit) × AllIn space base (base + len) (λ s. s ≡ state)

-- such a stretch lies in one range
in_first : (space : ℕ → SpaceState) (from limit : ℕ) (x : GcdRange) (xs : List GcdRange) (state : SpaceState) (unit len base : ℕ) → Cover space from (x ∷ xs) limit → Differ (x ∷ xs) → 0 < len
    → from ≤ base → base < from + x.len → Fits space limit state unit len base → (state_of x ≡ state) × IsRoomIn x unit len base
in_first space from limit x [] state unit len base c d some low high fits =
    (sym (c.2 base low high) ∙ fits.2 base (omega arith) (omega (arith, some)), (fits.0, omega (arith, c.0, low), omega (arith, c.0, c.3, fits.1)))
in_first space from limit x (y ∷ xs) state unit len base c d some low high fits =
    let here : state_of x ≡ state = sym (c.2 base low high) ∙ fits.2 base (omega arith) (omega (arith, some)) in
    elim (below_or (from + x.len) (base + len)) [
      | inl h ↦ absurd (d.0 (here ∙ sym (fits.2 (from + x.len) (omega (arith, high)) h) ∙ c.3.2 (from + x.len) (omega arith) (omega (arith, c.3.1))))
      | inr h ↦ (here, (fits.0, omega (arith, c.0, low), omega (arith, c.0, h)))
    ]

abbrev pub IsTop : (ℕ → SpaceState) → ℕ → ℕ → SpaceState → ℕ → ℕ → Option ℕ → Type 0
IsTop space from limit state unit len None = (base : ℕ) → from ≤ base → Fits space limit state unit len base → ⊥
IsTop space from limit state unit len (Some base) =
    (from ≤ base) × Fits space limit state unit len base × ((other : ℕ) → from ≤ other → Fits space limit state unit len other → other ≤ base)

pub is_top : (space : ℕ → SpaceState) (from limit : ℕ) (xs : List GcdRange) (state : SpaceState) (unit len : ℕ) (highest : Option ℕ) → Cover space from xs limit → Differ xs → 0 < len
    → IsHighest xs state unit len highest → IsTop space from limit state unit len highest
is_top space from limit [] state unit len None c d some h = λ base low fits. absurd (omega (arith, c, some, low, fits.1))
is_top space from limit [] state unit len (Some top) c d some h = let no : Some top ≡ None = h in absurd (cc)
is_top space from limit (x ∷ xs) state unit len None c d some (inl later) = let no : None ≡ Some later.0 = later.1 in absurd (cc)
is_top space from limit (x ∷ xs) state unit len None c d some (inr here) = λ base low fits.
    elim (below_or base (from + x.len)) [
      | inl h ↦ let first = in_first space from limit x xs state unit len base c d some low h fits in here.1 first.0 base first.1
      | inr h ↦ is_top space (from + x.len) limit xs state unit len None c.3 d.1 some here.0 base h fits
    ]
is_top space from limit (x ∷ xs) state unit len (Some top) c d some (inl later) =
    let rest = is_top space (from + x.len) limit xs state unit len (Some top) c.3 d.1 some later.2 in (
      omega (arith, rest.0),
      rest.1,
      λ other low fits.
          elim (below_or other (from + x.len)) [ inl h ↦ omega (arith, h, rest.0) | inr h ↦ rest.2 other h fits ],
    )
is_top space from limit (x ∷ xs) state unit len (Some top) c d some (inr here) =
    let room = here.1.1 in
    let order : from + x.len ≤ limit = cover_order space (from + x.len) limit xs c.3 in (
      omega (arith, c.0, room.1),
      (room.0, omega (arith, c.0, room.2, order), λ n low high. c.2 n (omega (arith, c.0, room.1, low)) (omega (arith, c.0, room.2, high)) ∙ here.1.0),
      λ other low fits. elim (below_or other (from + x.len)) [
        | inl h ↦ here.1.2 other (in_first space from limit x xs state unit len other c d some low h fits).1
        | inr h ↦ absurd (is_top space (from + x.len) limit xs state unit len None c.3 d.1 some here.0 other h fits)
      ],
    )

-- the greatest multiple of the unit up to a number
pub whole_units : (n unit : ℕ) → 0 < unit → (n - n % unit) % unit ≡ 0
whole_units n unit some =
    let parts : n / unit * unit + n % unit ≡ n = div-add-mod' n unit in
    let e : n - n % unit ≡ n / unit * unit + 0 = omega (arith, parts) in
    ap (λ (k : ℕ). k % unit) e ∙ mod-mul-add (n / unit) unit 0 some

pub most_units : (other n unit : ℕ) → 0 < unit → other % unit ≡ 0 → other ≤ n → other ≤ n - n % unit
most_units other n unit some whole order =
    let a : n / unit * unit + n % unit ≡ n = div-add-mod' n unit in
    let b : other / unit * unit + other % unit ≡ other = div-add-mod' other unit in
    let q : other / unit ≤ n / unit = le-div (other / unit) n unit some (omega (arith, b, whole, order)) in
    let m : other / unit * unit ≤ n / unit * unit = mul-le-mul_right unit q in
    omega (arith, a, b, whole, m)

-- one range before ranges that have no base
pub one_before : (xs : List GcdRange) (at : ℕ) (d : GcdRange) (state : SpaceState) (unit len : ℕ) (highest : Option ℕ) → at < length xs → IsHighest (drop (suc at) xs) state unit len None
    → IsHighestIn (get_or xs at d) state unit len highest → IsHighest (drop at xs) state unit len highest
one_before [] at d state unit len highest less none here = absurd (omega (arith, less))
one_before (x ∷ xs) zero d state unit len highest less none here = inr (none, here)
one_before (x ∷ xs) (suc at) d state unit len highest less none here = one_before xs at d state unit len highest (omega (arith, less)) none here
