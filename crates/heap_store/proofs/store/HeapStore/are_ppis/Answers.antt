use Rattle.std.proofs.Common.{◌∙◌, sym}
use Rattle.store_model.specs.{StateFacts.IsDesc, Service.Descriptor.is_ppi, Service.Descriptor.kind_at}
use Rattle.heap_store.proofs.ListTests.{all_end, all_on, all_stop}
use Rattle.heap_store.proofs.OnWay.{each_at}
use Rattle.heap_store.proofs.store.HeapStore.are_ppis.Goals as goal

pub is_ppi-requires : goal.is_ppi-requires
is_ppi-requires c = (c.requires.0, c.requires.1, each_at (IsDesc c.requires.0) c.args.list.now c.descs.d-index _ c.descs-test.true c.requires.2)

pub returns-then-not-is_ppi : goal.returns-then-not-is_ppi
returns-then-not-is_ppi c s h descs =
    let told = sym (c.is_ppi.ensures s h (each_at (IsDesc s) c.args.list.now c.descs.d-index _ c.descs-test.true descs)) ∙ c.if-not-is_ppi.true in
    sym (all_stop (λ d. is_ppi (kind_at s d.offset)) c.args.list.now c.descs.d-index _ c.descs-test.true told) ∙ c.descs.invariant s h descs

pub descs-preserved : goal.descs-preserved
descs-preserved c = λ s h descs.
    let told = sym (c.is_ppi.ensures s h (each_at (IsDesc s) c.args.list.now c.descs.d-index _ c.descs-test.true descs)) ∙ c.if-not-is_ppi.false in
    all_on (λ d. is_ppi (kind_at s d.offset)) c.args.list.now c.descs.d-index _ c.descs-test.true told ∙ c.descs.invariant s h descs

pub returns : goal.returns
returns c s h descs = sym (all_end (λ d. is_ppi (kind_at s d.offset)) c.args.list.now c.descs.d-index c.descs-test.false) ∙ c.descs.invariant s h descs
