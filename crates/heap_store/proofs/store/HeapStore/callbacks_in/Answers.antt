use Rattle.std.proofs.Common.{arith, ◌∙◌, sym, true, false}
use Rattle.store_model.specs.{StateFacts.IsDesc, Service.Descriptor.is_callback, Service.Descriptor.kind_at}
use Rattle.heap_store.proofs.ListTests.{count_end, count_step, mapped_count}
use Rattle.heap_store.proofs.OnWay.{each_at}
use Rattle.heap_store.proofs.store.HeapStore.callbacks_in.Goals as goal
use Rattle.heap_store.proofs.store.HeapStore.callbacks_in.Goals.{then-is_callback, else-is_callback}

pub is_callback-requires : goal.is_callback-requires
is_callback-requires c =
    let s = c.requires.state.0 in
    (s, c.requires.state.1, each_at (IsDesc s) c.args.list.now c.descs.d-index _ c.descs-test.true c.requires.state.2)

pub descs-preserved : goal.descs-preserved
descs-preserved c =
    let few = c.descs.invariant.few in
    elim c.if-is_callback.branch [
      | then-is_callback w ↦ record {
        count = λ s h descs.
            let told = sym (c.is_callback.ensures s h (each_at (IsDesc s) c.args.list.now c.descs.d-index _ c.descs-test.true descs)) ∙ w.if-is_callback.true in
            count_step (λ d. is_callback (kind_at s d.offset)) c.args.list.now c.descs.d-index _ true c.descs.count _ c.descs-test.true told w.count-is (c.descs.invariant.count s h descs);
        few = omega (arith, few, w.count-is);
      }
      | else-is_callback w ↦ record {
        count = λ s h descs.
            let told = sym (c.is_callback.ensures s h (each_at (IsDesc s) c.args.list.now c.descs.d-index _ c.descs-test.true descs)) ∙ w.if-is_callback.false in
            count_step (λ d. is_callback (kind_at s d.offset)) c.args.list.now c.descs.d-index _ false c.descs.count _ c.descs-test.true told (omega (arith, w.count-is)) (c.descs.invariant.count s h descs);
        few = omega (arith, few, w.count-is);
      }
    ]

pub returns-clause-count : goal.returns-clause-count
returns-clause-count c s h descs =
    let all = c.descs.invariant.count s h descs in
    let none = count_end (λ d. is_callback (kind_at s d.offset)) c.args.list.now c.descs.d-index c.descs-test.false in
    let same = mapped_count (λ d. d.offset) (λ place. is_callback (kind_at s place)) c.args.list.now in
    omega (arith, all, none, same)
