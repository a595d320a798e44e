-- Stretches follow one another to one end, or stop at one fault.
use Rattle.std.proofs.Common.{◌≡◌, ◌≢◌, ◌⊎◌, inl, inr, ℕ, zero, suc, ◌+◌, ◌<◌, ◌≤◌, Bool, true, false, List, [], ◌∷◌, refl, sym, ap, ◌∙◌, subst, true≢false, arith}
use Rattle.gcd_map.specs.{declared.state.GcdKind.GcdKind, declared.state.SpaceState.SpaceState, declared.hob.HobStretch.HobStretch}
use Rattle.gcd_map.specs.declared.state.GcdKind.TheVariants.{NonExistent, Reserved, System, Mmio}
use Rattle.gcd_map.specs.{declared.fault.GcdCause.GcdCause, declared.fault.GcdFault.GcdFault}
use Rattle.gcd_map.specs.declared.fault.GcdCause.TheVariants.{Short, Length, Form, NoEnd, Memory, NoCpu, Bits, Range, Overlap, Outside}
use Rattle.gcd_map.specs.{AddressSpace.MemorySpace, AddressSpace.state_at, Stretch.AllIn, Stretch.SomeIn}
use Rattle.gcd_map.specs.Commands.{IsAbsent, IsPresent, IsFreeOf, IsNotFreeOf}
use Rattle.gcd_map.specs.HobMap.{MayCome, MayBeTaken, Follow}
use Rattle.gcd_map.specs.HobFaults.{ComesNot, IsNotTaken, Stops}
use Rattle.gcd_map.proofs.Covers.{below_or}

-- what is asked of each address holds of all, or fails at some
all_not_some : (space : ℕ → SpaceState) (P Q : SpaceState → Type 0) (base end : ℕ) → ((state : SpaceState) → P state → Q state → ⊥) → AllIn space base end P → SomeIn space base end Q → ⊥
all_not_some space P Q base end apart all some = apart (space some.0) (all some.0 some.1 some.2) some.3

all_or_some : (space : ℕ → SpaceState) (P Q : SpaceState → Type 0) → ((state : SpaceState) → P state ⊎ Q state) → (base n : ℕ) → AllIn space base (base + n) P ⊎ SomeIn space base (base + n) Q
all_or_some space P Q test base zero = inl (λ address low high. absurd (omega (arith, low, high)))
all_or_some space P Q test base (suc n) = elim (all_or_some space P Q test base n) [
  | inr h ↦ inr (h.0, h.1, omega (arith, h.2), h.3)
  | inl all ↦ elim (test (space (base + n))) [
    | inr q ↦ inr (base + n, omega arith, omega arith, q)
    | inl p ↦ inl (λ address low high. elim (below_or address (base + n)) [
      | inl less ↦ all address low less
      | inr more ↦ let e : base + n ≡ address = omega (arith, high, more) in subst (λ (m : ℕ). P (space m)) e p
    ])
  ]
]

kind_test : (kind : GcdKind) → (kind ≡ NonExistent) ⊎ (kind ≢ NonExistent)
kind_test NonExistent = inl refl
kind_test Reserved = inr (λ (no : Reserved ≡ NonExistent). absurd (cc))
kind_test System = inr (λ (no : System ≡ NonExistent). absurd (cc))
kind_test Mmio = inr (λ (no : Mmio ≡ NonExistent). absurd (cc))

free_test : (kind : GcdKind) (allocated : Bool) → IsFreeOf System (record { kind = kind; allocated = allocated }) ⊎ IsNotFreeOf System (record { kind = kind; allocated = allocated })
free_test System false = inl refl
free_test System true = inr (λ no. true≢false (ap (λ (state : SpaceState). state.allocated) no))
free_test NonExistent allocated = inr (λ e. let no : NonExistent ≡ System = ap (λ (state : SpaceState). state.kind) e in absurd (cc))
free_test Reserved allocated = inr (λ e. let no : Reserved ≡ System = ap (λ (state : SpaceState). state.kind) e in absurd (cc))
free_test Mmio allocated = inr (λ e. let no : Mmio ≡ System = ap (λ (state : SpaceState). state.kind) e in absurd (cc))

-- stretches follow one another to one end, or stop at one fault, and one of them is so
pub record IsOne (May : MemorySpace → HobStretch → Type 0) (Not : MemorySpace → HobStretch → GcdCause → Type 0) : Type 0 where
  pub some : (space : MemorySpace) (s : HobStretch) → May space s ⊎ ((cause : GcdCause) × Not space s cause)
  pub apart : (space : MemorySpace) (s : HobStretch) (cause : GcdCause) → May space s → Not space s cause → ⊥
  pub causes : (space : MemorySpace) (s : HobStretch) (a b : GcdCause) → Not space s a → Not space s b → a ≡ b

pub fault_is : (a b : GcdFault) → a.cause ≡ b.cause → a.at ≡ b.at → a ≡ b
fault_is a b cause at =
    let of : GcdCause × ℕ → GcdFault = λ (t : GcdCause × ℕ). record { cause = t.0; at = t.1 } in
    let x : GcdCause × ℕ = (a.cause, a.at) in
    let y : GcdCause × ℕ = (b.cause, b.at) in
    let same : x ≡ y = cc in
    ap of same

pub follow_same : (May : MemorySpace → HobStretch → Type 0) (next : MemorySpace → HobStretch → MemorySpace) (space : MemorySpace) (all : List HobStretch) (a b : MemorySpace)
    → Follow May next space all a → Follow May next space all b → a ≡ b
follow_same May next space [] a b p q = p ∙ sym q
follow_same May next space (s ∷ rest) a b p q = follow_same May next (next space s) rest a b p.1 q.1

pub follow_not_stop : (May : MemorySpace → HobStretch → Type 0) (next : MemorySpace → HobStretch → MemorySpace) (Not : MemorySpace → HobStretch → GcdCause → Type 0) (one : IsOne May Not)
    (space : MemorySpace) (all : List HobStretch) (a : MemorySpace) (fault : GcdFault) → Follow May next space all a → Stops May next Not space all fault → ⊥
follow_not_stop May next Not one space [] a fault p q = q
follow_not_stop May next Not one space (s ∷ rest) a fault p q = elim q [
  | inl h ↦ one.apart space s fault.cause p.0 h.1
  | inr h ↦ follow_not_stop May next Not one (next space s) rest a fault p.1 h.1
]

pub stops_same : (May : MemorySpace → HobStretch → Type 0) (next : MemorySpace → HobStretch → MemorySpace) (Not : MemorySpace → HobStretch → GcdCause → Type 0) (one : IsOne May Not)
    (space : MemorySpace) (all : List HobStretch) (a b : GcdFault) → Stops May next Not space all a → Stops May next Not space all b → a ≡ b
stops_same May next Not one space [] a b p q = absurd p
stops_same May next Not one space (s ∷ rest) a b p q = elim p [
  | inl x ↦ elim q [
    | inl y ↦ fault_is a b (one.causes space s a.cause b.cause x.1 y.1) (x.0 ∙ sym y.0)
    | inr y ↦ absurd (one.apart space s a.cause y.0 x.1)
  ]
  | inr x ↦ elim q [
    | inl y ↦ absurd (one.apart space s b.cause x.0 y.1)
    | inr y ↦ stops_same May next Not one (next space s) rest a b x.1 y.1
  ]
]

pub follow_or_stop : (May : MemorySpace → HobStretch → Type 0) (next : MemorySpace → HobStretch → MemorySpace) (Not : MemorySpace → HobStretch → GcdCause → Type 0) (one : IsOne May Not)
    (space : MemorySpace) (all : List HobStretch) → ((end : MemorySpace) × Follow May next space all end) ⊎ ((fault : GcdFault) × Stops May next Not space all fault)
follow_or_stop May next Not one space [] = inl (space, refl)
follow_or_stop May next Not one space (s ∷ rest) = elim (one.some space s) [
  | inr h ↦ inr (record { cause = h.0; at = s.at }, inl (refl, h.1))
  | inl may ↦ elim (follow_or_stop May next Not one (next space s) rest) [
    | inl h ↦ inl (h.0, (may, h.1))
    | inr h ↦ inr (h.0, inr (may, h.1))
  ]
]

-- the cause of a resource that may not come
comes_not_is : (space : MemorySpace) (s : HobStretch) (cause : GcdCause) → ComesNot space s cause → ((cause ≡ Range) × ComesNot space s Range) ⊎ ((cause ≡ Overlap) × ComesNot space s Overlap)
comes_not_is space s Range h = inl (refl, h)
comes_not_is space s Overlap h = inr (refl, h)
comes_not_is space s Short h = absurd h
comes_not_is space s Length h = absurd h
comes_not_is space s Form h = absurd h
comes_not_is space s NoEnd h = absurd h
comes_not_is space s Memory h = absurd h
comes_not_is space s NoCpu h = absurd h
comes_not_is space s Bits h = absurd h
comes_not_is space s Outside h = absurd h

not_taken_is : (space : MemorySpace) (s : HobStretch) (cause : GcdCause) → IsNotTaken space s cause → (cause ≡ Outside) × IsNotTaken space s Outside
not_taken_is space s Outside h = (refl, h)
not_taken_is space s Short h = absurd h
not_taken_is space s Length h = absurd h
not_taken_is space s Form h = absurd h
not_taken_is space s NoEnd h = absurd h
not_taken_is space s Memory h = absurd h
not_taken_is space s NoCpu h = absurd h
not_taken_is space s Bits h = absurd h
not_taken_is space s Range h = absurd h
not_taken_is space s Overlap h = absurd h

range_or_not : (space : MemorySpace) (s : HobStretch) → ((0 < s.len) × (s.base + s.len ≤ space.limit)) ⊎ ((s.len ≡ 0) ⊎ (space.limit < s.base + s.len))
range_or_not space s = elim (below_or 0 s.len) [
  | inr none ↦ inr (inl (omega (arith, none)))
  | inl some ↦ elim (below_or space.limit (s.base + s.len)) [
    | inl out ↦ inr (inr out)
    | inr within ↦ inl (some, within)
  ]
]

not_both_ranges : (space : MemorySpace) (s : HobStretch) → 0 < s.len → s.base + s.len ≤ space.limit → (s.len ≡ 0) ⊎ (space.limit < s.base + s.len) → ⊥
not_both_ranges space s some within h = elim h [ inl none ↦ omega (arith, some, none) | inr out ↦ omega (arith, within, out) ]

pub resources_one : IsOne MayCome ComesNot
resources_one = record {
  some = λ space s. elim (range_or_not space s) [
    | inr out ↦ inr (Range, out)
    | inl in_space ↦ elim (all_or_some (state_at space) IsAbsent IsPresent (λ state. kind_test state.kind) s.base s.len) [
      | inl all ↦ inl (in_space.0, in_space.1, all)
      | inr some ↦ inr (Overlap, (in_space.0, in_space.1, some))
    ]
  ];
  apart = λ space s cause may no. elim (comes_not_is space s cause no) [
    | inl h ↦ not_both_ranges space s may.0 may.1 h.1
    | inr h ↦ all_not_some (state_at space) IsAbsent IsPresent s.base (s.base + s.len) (λ state p q. q p) may.2 h.1.2
  ];
  causes = λ space s a b p q. elim (comes_not_is space s a p) [
    | inl x ↦ elim (comes_not_is space s b q) [
      | inl y ↦ x.0 ∙ sym y.0
      | inr y ↦ absurd (not_both_ranges space s y.1.0 y.1.1 x.1)
    ]
    | inr x ↦ elim (comes_not_is space s b q) [
      | inl y ↦ absurd (not_both_ranges space s x.1.0 x.1.1 y.1)
      | inr y ↦ x.0 ∙ sym y.0
    ]
  ];
}

pub allocations_one : IsOne MayBeTaken IsNotTaken
allocations_one = record {
  some = λ space s. elim (range_or_not space s) [
    | inr out ↦ inr (Outside, elim out [ inl none ↦ inl none | inr behind ↦ inr (inl behind) ])
    | inl in_space ↦ elim (all_or_some (state_at space) (IsFreeOf System) (IsNotFreeOf System) (λ state. free_test state.kind state.allocated) s.base s.len) [
      | inl all ↦ inl (in_space.0, in_space.1, all)
      | inr some ↦ inr (Outside, inr (inr some))
    ]
  ];
  apart = λ space s cause may no. elim (not_taken_is space s cause no).1 [
    | inl none ↦ omega (arith, may.0, none)
    | inr h ↦ elim h [
      | inl out ↦ omega (arith, may.1, out)
      | inr some ↦ all_not_some (state_at space) (IsFreeOf System) (IsNotFreeOf System) s.base (s.base + s.len) (λ state p q. q p) may.2 some
    ]
  ];
  causes = λ space s a b p q. (not_taken_is space s a p).0 ∙ sym (not_taken_is space s b q).0;
}
