-- What a register may hold may still stand there where a HOB is added, and where bytes are written into a pool.
use Rattle.std.proofs.Common.{◌≡◌, ◌≢◌, ℕ, ◌+◌, ◌≤◌, Bool, true, false, List, [], ◌∷◌, ◌++◌, length, take, drop, arith, sym, refl, subst, ◌∙◌, Some, ◌==◌}
use Rattle.std.proofs.lemmas.Bool.Decides.{nat_tests}
use Rattle.boot_model.specs.{declared.frame.Register.Register, MachineFacts.IsHeld, MachineFacts.HoldRegisters}
use Rattle.boot_model.specs.declared.frame.Register.TheVariants.{Empty, Number, PoolIn, DescriptorIn, HandleIn}
use Rattle.store_model.specs.declared.store_handle.Pool.{Pool}
use Rattle.store_model.specs.declared.state.Body.TheVariants.{Bytes, Descriptor}
use Rattle.store_model.specs.{declared.state.HobEntry.HobEntry, StateFacts.IsPool, Service.Pool.written}
use Rattle.store_model.specs.StoreState.{StoreState, body_at, body_from, with_body}
use Rattle.store_laws.specs.Bodies.{IsGrown}
use Rattle.store_laws.proofs.{BodyLaws.all_stay, Bodies.here, Bodies.elsewhere, Changed.written_len}

-- what may stand in a register may still
abbrev pub Stays : StoreState → StoreState → Type 0
Stays s t = (x : Register) → IsHeld s x → IsHeld t x

pub hold_on : (s t : StoreState) (registers : List Register) → Stays s t → HoldRegisters registers s → HoldRegisters registers t
hold_on s t [] stays each = tt
hold_on s t (x ∷ xs) stays each = (stays x each.0, hold_on s t xs stays each.1)

abbrev pub Grown : StoreState → StoreState → Type 0
Grown s t = IsGrown s t

grown_stays : (s t : StoreState) → Grown s t → Stays s t
grown_stays s t grown Empty held = tt
grown_stays s t grown (Number n) held = tt
grown_stays s t grown (PoolIn pool) held = (held.0, grown pool.offset (Bytes held.0) held.1, held.2)
grown_stays s t grown (DescriptorIn d) held = (held.0, grown d.offset (Descriptor held.0) held.1)
grown_stays s t grown (HandleIn handle) held = tt

pub added_grows : (s t : StoreState) (hob : HobEntry) → t.hobs ≡ s.hobs ++ hob ∷ [] → Grown s t
added_grows s t hob e = λ place body h. subst (λ hobs. body_from 56 hobs place ≡ Some body) (sym e) (all_stay.grown s hob place body h)

pub added_stays : (s t : StoreState) (hob : HobEntry) → t.hobs ≡ s.hobs ++ hob ∷ [] → Stays s t
added_stays s t hob e = grown_stays s t (added_grows s t hob e)

pub hobs_stay : (s t : StoreState) → s.hobs ≡ t.hobs → Stays s t
hobs_stay s t e = grown_stays s t (λ place body h. subst (λ hobs. body_from 56 hobs place ≡ Some body) e h)

-- the pool at a place with bytes written into it
abbrev pub changed : StoreState → ℕ → ℕ → List ℕ → StoreState
changed s p at bytes = record s { hobs = with_body (written at bytes) 56 s.hobs p }

pool_stays : (s : StoreState) (p at : ℕ) (bytes old : List ℕ) → body_at s p ≡ Some (Bytes old) → at + length bytes ≤ length old → (pool : Pool) (b : Bool) → (pool.offset == p) ≡ b → IsPool s pool → IsPool (changed s p at bytes) pool
pool_stays s p at bytes old found fits pool true e held =
    let same : pool.offset ≡ p = grind (arith, nat_tests, e) in
    let own : body_at s p ≡ Some (Bytes held.0) = subst (λ n. body_at s n ≡ Some (Bytes held.0)) same held.1 in
    let one : held.0 ≡ old = cc in
    let len = written_len at bytes old fits in
    let size : pool.size ≤ length old = subst (λ xs. pool.size ≤ length xs) one held.2 in
    let is : body_at (changed s p at bytes) p ≡ Some (Bytes (take at old ++ bytes ++ drop (at + length bytes) old)) = here (written at bytes) s.hobs 56 p (Bytes old) found in
    (take at old ++ bytes ++ drop (at + length bytes) old, subst (λ n. body_at (changed s p at bytes) n ≡ Some (Bytes (take at old ++ bytes ++ drop (at + length bytes) old))) (sym same) is, omega (arith, len, size))
pool_stays s p at bytes old found fits pool false e held =
    let other : pool.offset ≢ p = λ same. let t : (pool.offset == p) ≡ true = grind (arith, nat_tests, same) in let no : true ≡ false = sym t ∙ e in cc in
    (held.0, elsewhere (written at bytes) s.hobs 56 p pool.offset (Bytes old) found (written_len at bytes old fits) other ∙ held.1, held.2)

pub written_stays : (s : StoreState) (to : Pool) (at : ℕ) (bytes : List ℕ) → IsPool s to → at + length bytes ≤ to.size → Stays s (changed s to.offset at bytes)
written_stays s to at bytes is fits Empty held = tt
written_stays s to at bytes is fits (Number n) held = tt
written_stays s to at bytes is fits (PoolIn pool) held = pool_stays s to.offset at bytes is.0 is.1 (omega (arith, fits, is.2)) pool (pool.offset == to.offset) refl held
written_stays s to at bytes is fits (DescriptorIn d) held =
    let other : d.offset ≢ to.offset = λ same. let own : body_at s to.offset ≡ Some (Descriptor held.0) = subst (λ n. body_at s n ≡ Some (Descriptor held.0)) same held.1 in let twice = is.1 in cc in
    (held.0, elsewhere (written at bytes) s.hobs 56 to.offset d.offset (Bytes is.0) is.1 (written_len at bytes is.0 (omega (arith, fits, is.2))) other ∙ held.1)
written_stays s to at bytes is fits (HandleIn handle) held = tt
