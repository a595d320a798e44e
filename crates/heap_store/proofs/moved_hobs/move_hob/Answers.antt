use Rattle.std.proofs.Common.{◌≡◌, ℕ, Some}
use Rattle.hob_codec.specs.declared.kind.TheConstants.{ALLOCATION}
use Rattle.store_model.specs.StoreState.{Range, StoreState, body_at}
use Rattle.store_model.specs.{declared.state.AllocationBody.AllocationBody, declared.state.Body.Body}
use Rattle.store_model.specs.declared.state.Body.TheVariants.{Bytes, Descriptor, Node, Allocation}
use Rattle.phys_mem.specs.declared.memory.PhysMem.{PhysMem}
use Rattle.store_laws.specs.Moving.{Done}
use Rattle.heap_store.specs.{Half.IsHalf, Pages.with_pages, Ready.IsOfKind}
use Rattle.heap_store.proofs.moved_hobs.move_hob.Goals as goal

are_pages : (s : StoreState) (to : Range) (done : Done) (p kind : ℕ) (body : Body) (memory : PhysMem) → kind ≡ ALLOCATION → IsOfKind s kind body → body_at s p ≡ Some body
    → ((a : AllocationBody) → body_at s p ≡ Some (Allocation a) → IsOfKind s kind (Allocation a) → IsHalf s to (with_pages done p (Allocation a)) memory) → IsHalf s to (with_pages done p body) memory
are_pages s to done p kind (Bytes bytes) memory is k found f = absurd (k is)
are_pages s to done p kind (Descriptor d) memory is k found f = absurd (k is)
are_pages s to done p kind Node memory is k found f = absurd (k is)
are_pages s to done p kind (Allocation a) memory is k found f = f a found k

pub returns-then-kind-eq-ALLOCATION : goal.returns-then-kind-eq-ALLOCATION
returns-then-kind-eq-ALLOCATION c s to done p body ready found kind fresh has is =
    are_pages s to done p c.args.kind body c.move_pages.new.memory c.if-kind-eq-ALLOCATION.true kind found (λ a there k. c.move_pages.ensures s to done p a ready there k.1 fresh has is)
