-- Chains of targets: each number has at most one target, so a number stands at one height over one that has none, and the chains that lead to it never cross.
use Rattle.std.proofs.Common.{◌≡◌, ℕ, zero, suc, ◌+◌, Option, Some, None, refl, sym, ap, subst, ◌∙◌, arith}
use Rattle.boot_model.specs.DriverLicence.{Leads}

abbrev pub plus : ℕ → ℕ → ℕ
plus zero j = j
plus (suc k) j = suc (plus k j)

pub plus_is : (k j : ℕ) → plus k j ≡ k + j
plus_is zero j = omega arith
plus_is (suc k) j = let on = plus_is k j in omega (arith, on)

pub leads_on : (target : ℕ → Option ℕ) (r x z j k : ℕ) → Leads target r x j → Leads target x z k → Leads target r z (plus k j)
leads_on target r x z j zero h e = subst (λ y. Leads target r y j) (sym e) h
leads_on target r x z j (suc k) h l = (l.0, l.1, leads_on target r x l.0 j k h l.2)

same_some : (a b : ℕ) (o : Option ℕ) → o ≡ Some a → o ≡ Some b → a ≡ b
same_some a b o h k = cc

ends_there : {P : Type 0} (target : ℕ → Option ℕ) (r z y : ℕ) → target r ≡ None → z ≡ r → target z ≡ Some y → P
ends_there target r z y root e h = let same : target z ≡ target r = ap target e in cc

-- a number stands at one height over one that has no target
pub one_height : (target : ℕ → Option ℕ) (r z k l : ℕ) → target r ≡ None → Leads target r z k → Leads target r z l → k ≡ l
one_height target r z zero zero root h g = refl
one_height target r z zero (suc l) root h g = ends_there target r z g.0 root h g.1
one_height target r z (suc k) zero root h g = ends_there target r z h.0 root g h.1
one_height target r z (suc k) (suc l) root h g =
    let same : g.0 ≡ h.0 = same_some g.0 h.0 (target z) g.1 h.1 in
    ap suc (one_height target r h.0 k l root h.2 (subst (λ y. Leads target r y l) same g.2))

-- as many targets lead to one number
pub one_end : (target : ℕ → Option ℕ) (x y z k : ℕ) → Leads target x z k → Leads target y z k → x ≡ y
one_end target x y z zero h g = sym h ∙ g
one_end target x y z (suc k) h g =
    let same : g.0 ≡ h.0 = same_some g.0 h.0 (target z) g.1 h.1 in
    one_end target x y h.0 k h.2 (subst (λ n. Leads target y n k) same g.2)

-- over a root, z stands over x, which stands at a height
abbrev pub Over : (ℕ → Option ℕ) → ℕ → ℕ → ℕ → ℕ → Type 0
Over target r j x z = Leads target r x j × ((k : ℕ) × Leads target x z k)

-- two at one height with one number over both are one
pub one_below : (target : ℕ → Option ℕ) (r j x y z : ℕ) → target r ≡ None → Over target r j x z → Over target r j y z → x ≡ y
one_below target r j x y z root h g =
    let first = leads_on target r x z j h.1.0 h.0 h.1.1 in
    let second = leads_on target r y z j g.1.0 g.0 g.1.1 in
    let even : plus h.1.0 j ≡ plus g.1.0 j = one_height target r z (plus h.1.0 j) (plus g.1.0 j) root first second in
    let a = plus_is h.1.0 j in
    let b = plus_is g.1.0 j in
    let same : g.1.0 ≡ h.1.0 = omega (arith, even, a, b) in
    one_end target x y z h.1.0 h.1.1 (subst (Leads target y z) same g.1.1)

-- what stands over another of a greater height is not x
pub not_over : (target : ℕ → Option ℕ) (r j x y : ℕ) → target r ≡ None → Leads target r x j → Over target r (suc j) y x → ⊥
not_over target r j x y root h g =
    let second = leads_on target r y x (suc j) g.1.0 g.0 g.1.1 in
    let even : j ≡ plus g.1.0 (suc j) = one_height target r x j (plus g.1.0 (suc j)) root h second in
    let a = plus_is g.1.0 (suc j) in
    omega (arith, even, a)
