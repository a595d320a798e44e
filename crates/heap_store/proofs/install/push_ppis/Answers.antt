use Rattle.store_model.specs.Service.Install.{with_ppi}
use Rattle.heap_store.proofs.{OnWay.all_made, OnWay.start, Pushing.ppi_more, Pushing.ppi_ready}
use Rattle.heap_store.proofs.install.push_ppis.Goals as goal

pub descs-init : goal.descs-init
descs-init c = λ s h can. start c.args.heap.now c.args.memory.now c.args.heads.now s (with_ppi c.args.by) c.args.list.now h

pub push-requires : goal.push-requires
push-requires c =
    let s = c.requires.0 in
    let can = c.requires.2 in
    let way = c.descs.invariant s c.requires.1 can in
    (way.state, way.made.linked, ppi_ready c.args.heap.now c.descs.memory c.descs.heads s c.args.list.now c.args.by c.descs.d-index _ can way c.descs-test.true)

pub descs-preserved : goal.descs-preserved
descs-preserved c = λ s h can.
    let way = c.descs.invariant s h can in
    let ready = ppi_ready c.args.heap.now c.descs.memory c.descs.heads s c.args.list.now c.args.by c.descs.d-index _ can way c.descs-test.true in
    ppi_more c.args.heap.now c.descs.memory c.push.new.memory c.descs.heads c.push.new.heads s c.args.list.now c.args.by c.descs.d-index _ c.steps_keep_facts.ensures c.ranges.by.fits can way c.descs-test.true
    (c.push.ensures way.state way.made.linked ready)

pub returns : goal.returns
returns c s h can =
    all_made c.args.heap.now c.descs.memory c.descs.heads s (with_ppi c.args.by) c.args.list.now c.descs.d-index (c.descs.invariant s h can) c.descs-test.false
