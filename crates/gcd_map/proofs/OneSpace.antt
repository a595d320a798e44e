-- A HOB list tells one memory space, or has one first fault.
use Rattle.std.proofs.Common.{◌≡◌, ◌⊎◌, inl, inr, ℕ, ◌+◌, ◌^◌, List, [], ◌∷◌, Option, Some, None, refl, sym, ap, ◌∙◌, subst, arith}
use Rattle.std.proofs.lemmas.Option.{none-some}
use Rattle.hob_codec.specs.{declared.fault.HobFault.HobFault, declared.list.HobPlace.HobPlace, HobReading.length_at}
use Rattle.hob_codec.specs.HobList.{Leads, fault_at, AreHobs, IsListFault}
use Rattle.gcd_map.specs.{declared.hob.CpuSize.CpuSize, declared.map.TheConstants.LEAST_BITS, declared.map.TheConstants.MOST_BITS}
use Rattle.gcd_map.specs.declared.fault.GcdCause.TheVariants.{NoCpu, Bits}
use Rattle.gcd_map.specs.{declared.fault.GcdFault.GcdFault, AddressSpace.MemorySpace, AddressSpace.empty_space}
use Rattle.gcd_map.specs.HobMap.{resources, allocations, first_cpu, AreBitsOf, MayCome, came, MayBeTaken, taken, Follow, IsFilled, IsSpaceOf}
use Rattle.gcd_map.specs.HobFaults.{walk_cause, IsWalkFault, ComesNot, IsNotTaken, Stops, IsBitsFault, IsMemoryFault, IsFaultOfHobs, IsFirstFault}
use Rattle.gcd_map.proofs.Covers.{below_or}
use Rattle.gcd_map.proofs.OneStop.{fault_is, follow_same, follow_not_stop, stops_same, follow_or_stop, resources_one, allocations_one}

-- the bits of the first CPU HOB
bits_same : (cpu : Option CpuSize) (a b : ℕ) → AreBitsOf cpu a → AreBitsOf cpu b → a ≡ b
bits_same None a b p q = absurd p
bits_same (Some cpu) a b p q = p.0 ∙ sym q.0

bits_faults_same : (cpu : Option CpuSize) (a b : GcdFault) → IsBitsFault cpu a → IsBitsFault cpu b → a ≡ b
bits_faults_same None a b p q = fault_is a b (p.0 ∙ sym q.0) (p.1 ∙ sym q.1)
bits_faults_same (Some cpu) a b p q = fault_is a b (p.1 ∙ sym q.1) (p.2 ∙ sym q.2)

bits_apart : (cpu : Option CpuSize) (bits : ℕ) (fault : GcdFault) → AreBitsOf cpu bits → IsBitsFault cpu fault → ⊥
bits_apart None bits fault p q = p
bits_apart (Some cpu) bits fault p q = q.0 p.1

bits_some : (cpu : Option CpuSize) → ((bits : ℕ) × AreBitsOf cpu bits) ⊎ ((fault : GcdFault) × IsBitsFault cpu fault)
bits_some None = inr (record { cause = NoCpu; at = 0 }, (refl, refl))
bits_some (Some cpu) = elim (below_or cpu.bits LEAST_BITS) [
  | inl few ↦ inr (record { cause = Bits; at = cpu.at }, ((λ are. omega (arith, are.0, few)), refl, refl))
  | inr least ↦ elim (below_or MOST_BITS cpu.bits) [
    | inl many ↦ inr (record { cause = Bits; at = cpu.at }, ((λ are. omega (arith, are.1, many)), refl, refl))
    | inr most ↦ inl (cpu.bits, (refl, (least, most)))
  ]
]

-- a space, or a fault of resources or allocations
fills_same : (bytes : List ℕ) (places : List HobPlace) (old a b : MemorySpace) → IsFilled bytes places old a → IsFilled bytes places old b → a ≡ b
fills_same bytes places old a b p q =
    let middle : p.middle ≡ q.middle = follow_same MayCome came old (resources bytes places) p.middle q.middle p.added q.added in
    follow_same MayBeTaken taken p.middle (allocations bytes places) a b p.allocated (subst (λ (m : MemorySpace). Follow MayBeTaken taken m (allocations bytes places) b) (sym middle) q.allocated)

fill_apart : (bytes : List ℕ) (places : List HobPlace) (old a : MemorySpace) (fault : GcdFault) → IsFilled bytes places old a → IsMemoryFault bytes places old fault → ⊥
fill_apart bytes places old a fault p q = elim q [
  | inl h ↦ follow_not_stop MayCome came ComesNot resources_one old (resources bytes places) p.middle fault p.added h
  | inr h ↦
      let middle : p.middle ≡ h.0 = follow_same MayCome came old (resources bytes places) p.middle h.0 p.added h.1 in
      follow_not_stop MayBeTaken taken IsNotTaken allocations_one h.0 (allocations bytes places) a fault
      (subst (λ (m : MemorySpace). Follow MayBeTaken taken m (allocations bytes places) a) middle p.allocated) h.2
]

memory_faults_same : (bytes : List ℕ) (places : List HobPlace) (old : MemorySpace) (a b : GcdFault) → IsMemoryFault bytes places old a → IsMemoryFault bytes places old b → a ≡ b
memory_faults_same bytes places old a b p q = elim p [
  | inl x ↦ elim q [
    | inl y ↦ stops_same MayCome came ComesNot resources_one old (resources bytes places) a b x y
    | inr y ↦ absurd (follow_not_stop MayCome came ComesNot resources_one old (resources bytes places) y.0 a y.1 x)
  ]
  | inr x ↦ elim q [
    | inl y ↦ absurd (follow_not_stop MayCome came ComesNot resources_one old (resources bytes places) x.0 b x.1 y)
    | inr y ↦
        let middle : x.0 ≡ y.0 = follow_same MayCome came old (resources bytes places) x.0 y.0 x.1 y.1 in
        stops_same MayBeTaken taken IsNotTaken allocations_one x.0 (allocations bytes places) a b x.2
        (subst (λ (m : MemorySpace). Stops MayBeTaken taken IsNotTaken m (allocations bytes places) b) (sym middle) y.2)
  ]
]

fill_or_fault : (bytes : List ℕ) (places : List HobPlace) (old : MemorySpace) → ((new : MemorySpace) × IsFilled bytes places old new) ⊎ ((fault : GcdFault) × IsMemoryFault bytes places old fault)
fill_or_fault bytes places old = elim (follow_or_stop MayCome came ComesNot resources_one old (resources bytes places)) [
  | inr h ↦ inr (h.0, inl h.1)
  | inl h ↦ elim (follow_or_stop MayBeTaken taken IsNotTaken allocations_one h.0 (allocations bytes places)) [
    | inr k ↦ inr (k.0, inr (h.0, h.1, k.1))
    | inl k ↦ inl (k.0, record { middle = h.0; added = h.1; allocated = k.1 })
  ]
]

-- the list's own fault stands at one place
stop_same : (bytes : List ℕ) (from : ℕ) (xs ys : List HobPlace) (x y : ℕ) (c d : HobFault) → Leads bytes from xs x → Leads bytes from ys y → fault_at bytes x ≡ Some c → fault_at bytes y ≡ Some d → x ≡ y
stop_same bytes from [] [] x y c d p q at_x at_y = sym p ∙ q
stop_same bytes from [] (b ∷ bs) x y c d p q at_x at_y = absurd (none-some c (sym q.1 ∙ ap (fault_at bytes) p ∙ at_x))
stop_same bytes from (a ∷ as_) [] x y c d p q at_x at_y = absurd (none-some d (sym p.1 ∙ ap (fault_at bytes) q ∙ at_y))
stop_same bytes from (a ∷ as_) (b ∷ bs) x y c d p q at_x at_y = stop_same bytes (from + length_at bytes from) as_ bs x y c d p.3 q.3 at_x at_y

-- the laws of the places of a list
pub record IsOneWalk : Type 0 where
  pub lists : (bytes : List ℕ) (a b : List HobPlace) → AreHobs bytes a → AreHobs bytes b → a ≡ b
  pub faults : (bytes : List ℕ) (a b : HobFault) → IsListFault bytes a → IsListFault bytes b → a ≡ b
  pub apart : (bytes : List ℕ) (places : List HobPlace) (fault : HobFault) → AreHobs bytes places → IsListFault bytes fault → ⊥
  pub some : (bytes : List ℕ) → ((places : List HobPlace) × AreHobs bytes places) ⊎ ((fault : HobFault) × IsListFault bytes fault)

list_fault : (bytes : List ℕ) (fault : GcdFault) (h : IsWalkFault bytes fault) → IsListFault bytes h.1
list_fault bytes fault h = (h.0, fault.at, h.2, h.3)

walk_faults_same : IsOneWalk → (bytes : List ℕ) (a b : GcdFault) → IsWalkFault bytes a → IsWalkFault bytes b → a ≡ b
walk_faults_same walk bytes a b p q =
    let cause : p.1 ≡ q.1 = walk.faults bytes p.1 q.1 (list_fault bytes a p) (list_fault bytes b q) in
    fault_is a b (p.4 ∙ ap walk_cause cause ∙ sym q.4) (stop_same bytes 0 p.0 q.0 a.at b.at p.1 q.1 p.2 q.2 p.3 q.3)

hobs_faults_same : (bytes : List ℕ) (places : List HobPlace) (a b : GcdFault) → IsFaultOfHobs bytes places a → IsFaultOfHobs bytes places b → a ≡ b
hobs_faults_same bytes places a b p q = elim p [
  | inl x ↦ elim q [
    | inl y ↦ bits_faults_same (first_cpu bytes places) a b x y
    | inr y ↦ absurd (bits_apart (first_cpu bytes places) y.0 a y.1 x)
  ]
  | inr x ↦ elim q [
    | inl y ↦ absurd (bits_apart (first_cpu bytes places) x.0 b x.1 y)
    | inr y ↦
        let bits : x.0 ≡ y.0 = bits_same (first_cpu bytes places) x.0 y.0 x.1 y.1 in
        memory_faults_same bytes places (empty_space (2 ^ x.0)) a b x.2 (subst (λ (n : ℕ). IsMemoryFault bytes places (empty_space (2 ^ n)) b) (sym bits) y.2)
  ]
]

pub spaces_same : IsOneWalk → (bytes : List ℕ) (a b : MemorySpace) → IsSpaceOf bytes a → IsSpaceOf bytes b → a ≡ b
spaces_same walk bytes a b p q =
    let places : q.places ≡ p.places = walk.lists bytes q.places p.places q.hobs p.hobs in
    let sized : AreBitsOf (first_cpu bytes p.places) q.bits = subst (λ (l : List HobPlace). AreBitsOf (first_cpu bytes l) q.bits) places q.sized in
    let bits : q.bits ≡ p.bits = bits_same (first_cpu bytes p.places) q.bits p.bits sized p.sized in
    let filled : IsFilled bytes p.places (empty_space (2 ^ q.bits)) b = subst (λ (l : List HobPlace). IsFilled bytes l (empty_space (2 ^ q.bits)) b) places q.filled in
    fills_same bytes p.places (empty_space (2 ^ p.bits)) a b p.filled (subst (λ (n : ℕ). IsFilled bytes p.places (empty_space (2 ^ n)) b) bits filled)

pub faults_same : IsOneWalk → (bytes : List ℕ) (a b : GcdFault) → IsFirstFault bytes a → IsFirstFault bytes b → a ≡ b
faults_same walk bytes a b p q = elim p [
  | inl x ↦ elim q [
    | inl y ↦ walk_faults_same walk bytes a b x y
    | inr y ↦ absurd (walk.apart bytes y.0 x.1 y.1 (list_fault bytes a x))
  ]
  | inr x ↦ elim q [
    | inl y ↦ absurd (walk.apart bytes x.0 y.1 x.1 (list_fault bytes b y))
    | inr y ↦
        let places : y.0 ≡ x.0 = walk.lists bytes y.0 x.0 y.1 x.1 in
        hobs_faults_same bytes x.0 a b x.2 (subst (λ (l : List HobPlace). IsFaultOfHobs bytes l b) places y.2)
  ]
]

pub spaces_apart : IsOneWalk → (bytes : List ℕ) (space : MemorySpace) (fault : GcdFault) → IsSpaceOf bytes space → IsFirstFault bytes fault → ⊥
spaces_apart walk bytes space fault p q = elim q [
  | inl y ↦ walk.apart bytes p.places y.1 p.hobs (list_fault bytes fault y)
  | inr y ↦
      let places : y.0 ≡ p.places = walk.lists bytes y.0 p.places y.1 p.hobs in
      elim (subst (λ (l : List HobPlace). IsFaultOfHobs bytes l fault) places y.2) [
        | inl h ↦ bits_apart (first_cpu bytes p.places) p.bits fault p.sized h
        | inr h ↦
            let bits : h.0 ≡ p.bits = bits_same (first_cpu bytes p.places) h.0 p.bits h.1 p.sized in
            fill_apart bytes p.places (empty_space (2 ^ p.bits)) space fault p.filled (subst (λ (n : ℕ). IsMemoryFault bytes p.places (empty_space (2 ^ n)) fault) bits h.2)
      ]
]

pub some_space : IsOneWalk → (bytes : List ℕ) → ((space : MemorySpace) × IsSpaceOf bytes space) ⊎ ((fault : GcdFault) × IsFirstFault bytes fault)
some_space walk bytes = elim (walk.some bytes) [
  | inr h ↦ inr (record { cause = walk_cause h.0; at = h.1.1 }, inl (h.1.0, h.0, h.1.2, h.1.3, refl))
  | inl h ↦ elim (bits_some (first_cpu bytes h.0)) [
    | inr k ↦ inr (k.0, inr (h.0, h.1, inl k.1))
    | inl k ↦ elim (fill_or_fault bytes h.0 (empty_space (2 ^ k.0))) [
      | inr m ↦ inr (m.0, inr (h.0, h.1, inr (k.0, k.1, m.1)))
      | inl m ↦ inl (m.0, record { places = h.0; hobs = h.1; bits = k.0; sized = k.1; filled = m.1 })
    ]
  ]
]
