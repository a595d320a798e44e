-- What registers hold is there: it stands before the end HOB, and the descriptors of a list are descriptors.
use Rattle.std.proofs.Common.{option_map, ◌≡◌, ℕ, zero, suc, ◌+◌, ◌≤◌, ◌<◌, Bool, true, false, cond, List, [], ◌∷◌, arith, sym, refl, ap, subst, Option, Some, None, ◌==◌, sum_by}
use Rattle.std.proofs.{lemmas.List.Sums.sum_by-cons, lemmas.Bool.Decides.nat_tests}
use Rattle.boot_model.specs.{declared.frame.Register.Register, MachineFacts.IsHeld, MachineFacts.HoldRegisters}
use Rattle.boot_model.specs.declared.frame.Register.TheVariants.{Empty, Number, PoolIn, DescriptorIn, HandleIn}
use Rattle.store_model.specs.{declared.store_handle.Desc.Desc, declared.store_handle.Pool.Pool, declared.state.Body.Body}
use Rattle.store_model.specs.declared.state.Body.TheVariants.{Bytes, Descriptor}
use Rattle.store_model.specs.{declared.state.HobEntry.HobEntry, StateFacts.IsDesc, StateFacts.IsPool}
use Rattle.pi_base.specs.Lists.{Each}
use Rattle.store_model.specs.StoreState.{StoreState, hob_len, body_from, end_place}
use Rattle.boot_model.specs.Registers.{register, pool_of, descriptor_of, offset_of, pool_in, descriptor_in, descriptors_in, both}

-- a body that is there stands before the end
before_on : (b : Bool) (here : Body) (then : Option Body) (body : Body) (place last : ℕ) → (b ≡ true → place < last) → (then ≡ Some body → place < last) → cond b (Some here) then ≡ Some body → place < last
before_on true here then body place last f g h = f refl
before_on false here then body place last f g h = g h

body_before : (hobs : List HobEntry) (at place : ℕ) (body : Body) → body_from at hobs place ≡ Some body → place < at + sum_by hob_len hobs + 1
body_before [] at place body h = cc
body_before (first ∷ hobs) at place body h =
    let c : sum_by hob_len (first ∷ hobs) ≡ hob_len first + sum_by hob_len hobs = sum_by-cons hob_len first hobs in
    before_on (at + 8 == place) first.body (body_from (at + hob_len first) hobs place) body place (at + sum_by hob_len (first ∷ hobs) + 1)
    (λ t. let e : at + 8 ≡ place = grind (arith, nat_tests, t) in omega (arith, e, c))
    (λ later. let le : place < at + hob_len first + sum_by hob_len hobs + 1 = body_before hobs (at + hob_len first) place body later in omega (arith, le, c)) h

pub is_held : (s : StoreState) (registers : List Register) (r : ℕ) → HoldRegisters registers s → IsHeld s (register registers r)
is_held s [] r each = tt
is_held s (x ∷ xs) zero each = each.0
is_held s (x ∷ xs) (suc r) each = is_held s xs r each.1

place_of : (s : StoreState) (held : Register) (place : ℕ) → IsHeld s held → offset_of held ≡ Some place → place ≤ end_place s
place_of s Empty place is e = cc
place_of s (Number n) place is e = cc
place_of s (PoolIn pool) place is e =
    let same : pool.offset ≡ place = cc in let before : pool.offset < 56 + sum_by hob_len s.hobs + 1 = body_before s.hobs 56 pool.offset (Bytes is.0) is.1 in omega (arith, same, before)
place_of s (DescriptorIn d) place is e =
    let same : d.offset ≡ place = cc in let before : d.offset < 56 + sum_by hob_len s.hobs + 1 = body_before s.hobs 56 d.offset (Descriptor is.0) is.1 in omega (arith, same, before)
place_of s (HandleIn handle) place is e = cc

pub held_place : (s : StoreState) (registers : List Register) (r place : ℕ) → HoldRegisters registers s → Some place ≡ offset_of (register registers r) → place ≤ end_place s
held_place s registers r place each e = place_of s (register registers r) place (is_held s registers r each) (sym e)

pub pool_is : (s : StoreState) (held : Register) (pool : Pool) → IsHeld s held → pool_of held ≡ Some pool → IsPool s pool
pool_is s Empty pool is e = cc
pool_is s (Number n) pool is e = cc
pool_is s (PoolIn own) pool is e = let same : own ≡ pool = cc in subst (λ p. IsPool s p) same is
pool_is s (DescriptorIn d) pool is e = cc
pool_is s (HandleIn handle) pool is e = cc

pub held_pool : (s : StoreState) (registers : List Register) (r : ℕ) (pool : Pool) → HoldRegisters registers s → Some pool ≡ pool_in registers r → IsPool s pool
held_pool s registers r pool each e = pool_is s (register registers r) pool (is_held s registers r each) (sym e)

desc_is : (s : StoreState) (held : Register) (d : Desc) → IsHeld s held → descriptor_of held ≡ Some d → IsDesc s d
desc_is s Empty d is e = cc
desc_is s (Number n) d is e = cc
desc_is s (PoolIn own) d is e = cc
desc_is s (DescriptorIn own) d is e = let same : own ≡ d = cc in subst (λ p. IsDesc s p) same is
desc_is s (HandleIn handle) d is e = cc

pub held_descriptor : (s : StoreState) (registers : List Register) (r : ℕ) (d : Desc) → HoldRegisters registers s → Some d ≡ descriptor_in registers r → IsDesc s d
held_descriptor s registers r d each e = desc_is s (register registers r) d (is_held s registers r each) (sym e)

-- the same of a list of registers
found_on : (s : StoreState) (held : Option Desc) (more : Option (List Desc)) (found : List Desc) → ((d : Desc) → Some d ≡ held → IsDesc s d) → ((rest : List Desc) → Some rest ≡ more → Each (IsDesc s) rest)
    → Some found ≡ option_map (λ pair. pair.0 ∷ pair.1) (both held more) → Each (IsDesc s) found
found_on s None more found one others e = cc
found_on s (Some d) None found one others e = cc
found_on s (Some d) (Some rest) found one others e = let same : d ∷ rest ≡ found = cc in subst (λ xs. Each (IsDesc s) xs) same (one d refl, others rest refl)

held_descriptors : (s : StoreState) (registers : List Register) (list : List ℕ) (found : List Desc) → HoldRegisters registers s → Some found ≡ descriptors_in registers list → Each (IsDesc s) found
held_descriptors s registers [] found each e = let same : [] ≡ found = cc in subst (λ xs. Each (IsDesc s) xs) same tt
held_descriptors s registers (r ∷ rs) found each e =
    found_on s (descriptor_in registers r) (descriptors_in registers rs) found (λ d. held_descriptor s registers r d each) (λ rest. held_descriptors s registers rs rest each) e

pub held_list : (s : StoreState) (registers : List Register) (list : List ℕ) (found shown : List Desc) → HoldRegisters registers s → Some found ≡ descriptors_in registers list → shown ≡ found → Each (IsDesc s) shown
held_list s registers list found shown each e same = subst (λ xs. Each (IsDesc s) xs) (sym same) (held_descriptors s registers list found each e)

-- both of two
two_on : (s : StoreState) (held more : Option Desc) (one other : Desc) → ((d : Desc) → Some d ≡ held → IsDesc s d) → ((d : Desc) → Some d ≡ more → IsDesc s d) → Some (one, other) ≡ both held more → IsDesc s one × IsDesc s other
two_on s None more one other f g e = cc
two_on s (Some d) None one other f g e = cc
two_on s (Some d) (Some d') one other f g e =
    let ours : Desc × Desc = (one, other) in let theirs : Desc × Desc = (d, d') in let same : ours ≡ theirs = cc in (f one (ap (λ p. Some p.0) same), g other (ap (λ p. Some p.1) same))

pub held_two : (s : StoreState) (registers : List Register) (a b : ℕ) (one other : Desc) → HoldRegisters registers s → Some (one, other) ≡ both (descriptor_in registers a) (descriptor_in registers b) → IsDesc s one × IsDesc s other
held_two s registers a b one other each e = two_on s (descriptor_in registers a) (descriptor_in registers b) one other (λ d. held_descriptor s registers a d each) (λ d. held_descriptor s registers b d each) e
