-- Lists of ranges that cover stretches of addresses.
use Rattle.std.proofs.Common.{◌≡◌, ◌⊎◌, inl, inr, ℕ, zero, suc, ◌+◌, ◌-◌, ◌<◌, ◌≤◌, List, [], ◌∷◌, ◌++◌, length, drop, get_or, refl, sym, ◌∙◌, subst, arith}
use Rattle.gcd_map.specs.{declared.state.SpaceState.SpaceState, declared.range.GcdRange.GcdRange, Stretch.AllIn, Ranges.Cover}
use Rattle.gcd_map.specs.Tests.{base_at}

pub below_or : (n m : ℕ) → (n < m) ⊎ (m ≤ n)
below_or n zero = inr (omega arith)
below_or zero (suc m) = inl (omega arith)
below_or (suc n) (suc m) = elim (below_or n m) [ inl h ↦ inl (omega (arith, h)) | inr h ↦ inr (omega (arith, h)) ]

pub cover_append : (space : ℕ → SpaceState) (from mid to : ℕ) (xs ys : List GcdRange) → Cover space from xs mid → Cover space mid ys to → Cover space from (xs ++ ys) to
cover_append space from mid to [] ys e c = subst (λ (n : ℕ). Cover space n ys to) (sym e) c
cover_append space from mid to (x ∷ xs) ys e c = (e.0, e.1, e.2, cover_append space (from + x.len) mid to xs ys e.3 c)

pub record Split (space : ℕ → SpaceState) (from to : ℕ) (xs ys : List GcdRange) : Type 0 where
  pub mid : ℕ
  pub front : Cover space from xs mid
  pub back : Cover space mid ys to

pub cover_split : (space : ℕ → SpaceState) (from to : ℕ) (xs ys : List GcdRange) → Cover space from (xs ++ ys) to → Split space from to xs ys
cover_split space from to [] ys c = record { mid = from; front = refl; back = c }
cover_split space from to (x ∷ xs) ys c =
    let rest = cover_split space (from + x.len) to xs ys c.3 in record { mid = rest.mid; front = (c.0, c.1, c.2, rest.front); back = rest.back }

pub cover_order : (space : ℕ → SpaceState) (from to : ℕ) (xs : List GcdRange) → Cover space from xs to → from ≤ to
cover_order space from to [] c = omega (arith, c)
cover_order space from to (x ∷ xs) c = omega (arith, c.1, cover_order space (from + x.len) to xs c.3)

-- spaces that agree on the stretch have the same ranges there
pub cover_same : (a b : ℕ → SpaceState) (from to : ℕ) (xs : List GcdRange) → ((n : ℕ) → from ≤ n → n < to → b n ≡ a n) → Cover a from xs to → Cover b from xs to
cover_same a b from to [] same c = c
cover_same a b from to (x ∷ xs) same c =
    let order : from + x.len ≤ to = cover_order a (from + x.len) to xs c.3 in
    (c.0, c.1, (λ n low high. same n low (omega (arith, high, order)) ∙ c.2 n low high), cover_same a b (from + x.len) to xs (λ n low high. same n (omega (arith, low)) high) c.3)

-- one range more
pub cover_more : (space : ℕ → SpaceState) (start base to : ℕ) (state : SpaceState) (xs : List GcdRange) → base < to → Cover space start xs base → AllIn space base to (λ s. s ≡ state)
    → Cover space start (xs ++ record { base = base; len = to - base; kind = state.kind; allocated = state.allocated } ∷ []) to
cover_more space start base to state xs less c all =
    cover_append space start base to xs _ c (refl, omega (arith, less), (λ n low high. all n low (omega (arith, high, less))), omega (arith, less))

-- a range's base is where the ranges from it on begin
pub base_here : (space : ℕ → SpaceState) (from to : ℕ) (xs : List GcdRange) (at : ℕ) → at < length xs → Cover space from (drop at xs) to → base_at xs at ≡ from
base_here space from to [] at less c = absurd (omega (arith, less))
base_here space from to (x ∷ xs) zero less c = c.0
base_here space from to (x ∷ xs) (suc at) less c = base_here space from to xs at (omega (arith, less)) c

-- the address is below the end of the first range
abbrev pub IsBelowFirst : List GcdRange → ℕ → ℕ → Type 0
IsBelowFirst [] from address = ⊥
IsBelowFirst (x ∷ xs) from address = address < from + x.len

pub below_first : (space : ℕ → SpaceState) (from to address : ℕ) (xs : List GcdRange) (at : ℕ) → at < length xs → (suc at < length xs → address < base_at xs (suc at))
    → Cover space from (drop at xs) to → address < to → IsBelowFirst (drop at xs) from address
below_first space from to address [] at less next c within = absurd (omega (arith, less))
below_first space from to address (x ∷ []) zero less next c within = omega (arith, c.3, within)
below_first space from to address (x ∷ y ∷ xs) zero less next c within = omega (arith, c.3.0, next (omega arith))
below_first space from to address (x ∷ xs) (suc at) less next c within =
    below_first space from to address xs at (omega (arith, less)) (λ (more : suc at < length xs). next (omega (arith, more))) c within

pub base_is : (xs : List GcdRange) (at : ℕ) (d : GcdRange) → at < length xs → (get_or xs at d).base ≡ base_at xs at
base_is [] at d less = absurd (omega (arith, less))
base_is (x ∷ xs) zero d less = refl
base_is (x ∷ xs) (suc at) d less = base_is xs at d (omega (arith, less))

pub begins_low : (space : ℕ → SpaceState) (to : ℕ) (xs : List GcdRange) (address : ℕ) → Cover space 0 xs to → base_at xs 0 ≤ address
begins_low space to [] address c = omega arith
begins_low space to (x ∷ xs) address c = omega (arith, c.0)

pub begins_at_zero : (space : ℕ → SpaceState) (to : ℕ) (xs : List GcdRange) → Cover space 0 xs to → base_at xs 0 ≡ 0
begins_at_zero space to [] c = refl
begins_at_zero space to (x ∷ xs) c = c.0

pub base_drop : (xs : List GcdRange) (at : ℕ) → base_at (drop at xs) 0 ≡ base_at xs at
base_drop [] zero = refl
base_drop [] (suc at) = refl
base_drop (x ∷ xs) zero = refl
base_drop (x ∷ xs) (suc at) = base_drop xs at
