-- A memory space has one map.
use Rattle.std.proofs.Common.{◌≡◌, inl, inr, ℕ, ◌+◌, ◌<◌, ◌≤◌, List, [], ◌∷◌, refl, sym, ap, ◌∙◌, subst, arith}
use Rattle.gcd_map.specs.{declared.state.SpaceState.SpaceState, declared.range.GcdRange.GcdRange}
use Rattle.gcd_map.specs.{AddressSpace.MemorySpace, AddressSpace.state_at, SpaceMap.IsSpaceMap}
use Rattle.gcd_map.specs.Ranges.{Cover, Differ, state_of}
use Rattle.gcd_map.proofs.Covers.{below_or, cover_order}

abbrev Agree : (ℕ → SpaceState) → (ℕ → SpaceState) → ℕ → Type 0
Agree a b to = (n : ℕ) → n < to → a n ≡ b n

-- ranges of one state that begin at one address end at one, since their neighbours differ
not_longer : (a b : ℕ → SpaceState) (from to : ℕ) (x : GcdRange) (xs : List GcdRange) (y : GcdRange) (ys : List GcdRange) → Agree a b to → Cover a from (x ∷ xs) to → Cover b from (y ∷ ys) to
    → Differ (x ∷ xs) → state_of x ≡ state_of y → x.len < y.len → ⊥
not_longer a b from to x [] y ys same c d diff e less =
    let order : from + y.len ≤ to = cover_order b (from + y.len) to ys d.3 in
    omega (arith, c.3, order, less)
not_longer a b from to x (z ∷ xs) y ys same c d diff e less =
    let order : from + y.len ≤ to = cover_order b (from + y.len) to ys d.3 in
    let next : a (from + x.len) ≡ state_of z = c.3.2 (from + x.len) (omega arith) (omega (arith, c.3.1)) in
    let here : b (from + x.len) ≡ state_of y = d.2 (from + x.len) (omega arith) (omega (arith, less)) in
    diff.0 (e ∙ sym here ∙ sym (same (from + x.len) (omega (arith, order, less))) ∙ next)

range_is : (x y : GcdRange) → x.base ≡ y.base → x.len ≡ y.len → state_of x ≡ state_of y → x ≡ y
range_is x y base len state =
    let of : ℕ × ℕ × SpaceState → GcdRange = λ (t : ℕ × ℕ × SpaceState). record { base = t.0; len = t.1; kind = t.2.kind; allocated = t.2.allocated } in
    let a : ℕ × ℕ × SpaceState = (x.base, x.len, state_of x) in
    let b : ℕ × ℕ × SpaceState = (y.base, y.len, state_of y) in
    let same : a ≡ b = cc in
    ap of same

pub one_list : (a b : ℕ → SpaceState) (from to : ℕ) (xs ys : List GcdRange) → Agree a b to → Cover a from xs to → Cover b from ys to → Differ xs → Differ ys → xs ≡ ys
one_list a b from to [] [] same c d e f = refl
one_list a b from to [] (y ∷ ys) same c d e f = absurd (omega (arith, c, d.1, cover_order b (from + y.len) to ys d.3))
one_list a b from to (x ∷ xs) [] same c d e f = absurd (omega (arith, d, c.1, cover_order a (from + x.len) to xs c.3))
one_list a b from to (x ∷ xs) (y ∷ ys) same c d e f =
    let order : from + x.len ≤ to = cover_order a (from + x.len) to xs c.3 in
    let some : 0 < x.len = c.1 in
    let state : state_of x ≡ state_of y = sym (c.2 from (omega arith) (omega (arith, c.1))) ∙ same from (omega (arith, some, order)) ∙ d.2 from (omega arith) (omega (arith, d.1)) in
    let len : x.len ≡ y.len = elim (below_or x.len y.len) [
      | inl h ↦ absurd (not_longer a b from to x xs y ys same c d e state h)
      | inr h ↦ elim (below_or y.len x.len) [
        | inl k ↦ absurd (not_longer b a from to y ys x xs (λ n less. sym (same n less)) d c f (sym state) k)
        | inr k ↦ omega (arith, h, k)
      ]
    ] in
    let head : x ≡ y = range_is x y (c.0 ∙ sym d.0) len state in
    let tail : xs ≡ ys = one_list a b (from + x.len) to xs ys same c.3 (subst (λ (n : ℕ). Cover b (from + n) ys to) (sym len) d.3) e.1 f.1 in
    cc

pub one_map : (a b : MemorySpace) (xs ys : List GcdRange) → a.limit ≡ b.limit → ((address : ℕ) → address < a.limit → state_at a address ≡ state_at b address)
    → IsSpaceMap a xs → IsSpaceMap b ys → xs ≡ ys
one_map a b xs ys limit same p q =
    one_list (state_at a) (state_at b) 0 a.limit xs ys same p.covered (subst (λ (n : ℕ). Cover (state_at b) 0 ys n) (sym limit) q.covered) p.merged q.merged
