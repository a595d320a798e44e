use Rattle.std.proofs.Common.{◌≡◌, ◌≢◌, ◌+◌, ◌≤◌, ℕ, Option, Some, None, arith, IfSome}
use Rattle.store_model.specs.{StoreState.Range, StoreState.StoreState, declared.state.Body.TheVariants.Descriptor}
use Rattle.phys_mem.specs.declared.memory.PhysMem.{PhysMem}
use Rattle.store_laws.specs.Moving.{Done, with_descriptor}
use Rattle.store_laws.proofs.HeapBodies.{body_behind}
use Rattle.heap_store.specs.{Half.IsHalf, Half.with_other, Linked.HasDescriptor, Linked.address}
use Rattle.heap_store.proofs.moved_descriptor.move_other.Goals as goal

not_null : (s : StoreState) (base at p : ℕ) → HasDescriptor s p → at ≡ base + p → at ≢ 0
not_null s base at p h is z = let le : 56 + 8 ≤ p = body_behind s.hobs 56 p (Descriptor h.0) h.1 in absurd (omega (arith, le, is, z))

-- there is one
some_of : (s : StoreState) (base at : ℕ) (p : Option ℕ) → IfSome p (HasDescriptor s) → at ≡ address base p → at ≢ 0 → (q : ℕ) × (p ≡ Some q) × HasDescriptor s q × (at ≡ base + q)
some_of s base at None h is z = absurd (z is)
some_of s base at (Some p) h is z = (p, (let e : Some p ≡ Some p = cc in e), h, is)

stays : (s : StoreState) (to : Range) (done : Done) (at : ℕ) (p : Option ℕ) (memory : PhysMem) → IfSome p (HasDescriptor s) → at ≡ address to.base p → at ≡ 0 → IsHalf s to done memory → IsHalf s to (with_other done p) memory
stays s to done at None memory h is z has = has
stays s to done at (Some p) memory h is z has = absurd (not_null s to.base at p h is z)

moves : (s : StoreState) (to : Range) (done : Done) (at : ℕ) (p : Option ℕ) (memory : PhysMem) → IfSome p (HasDescriptor s) → at ≡ address to.base p → at ≢ 0 → ((q : ℕ) → HasDescriptor s q → at ≡ to.base + q → IsHalf s to (with_descriptor done q) memory) → IsHalf s to (with_other done p) memory
moves s to done at None memory h is z all = absurd (z is)
moves s to done at (Some p) memory h is z all = all p h is

pub move_descriptor-requires : goal.move_descriptor-requires
move_descriptor-requires c =
    let h = c.requires.there in
    let one = some_of h.0 h.1.base c.args.at h.3 h.5 h.7 c.if-at-ne0.true in
    record { there = (h.0, h.1, h.2, one.0, h.4, one.2, h.6, one.3) }

pub returns-then-at-ne0 : goal.returns-then-at-ne0
returns-then-at-ne0 c s to done p ready found has is =
    moves s to done c.args.at p c.move_descriptor.new.memory found is c.if-at-ne0.true (λ q there at. c.move_descriptor.ensures s to done q ready there has at)

pub returns-else-at-ne0 : goal.returns-else-at-ne0
returns-else-at-ne0 c s to done p ready found has is = stays s to done c.args.at p c.args.memory.now found is c.if-at-ne0.false has
