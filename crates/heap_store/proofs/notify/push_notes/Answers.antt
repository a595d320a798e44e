use Rattle.store_model.specs.Service.Notify.{with_note}
use Rattle.heap_store.proofs.OnWay.{all_made, start}
use Rattle.heap_store.proofs.Pushing.{note_more, note_ready, note_there}
use Rattle.heap_store.proofs.notify.push_notes.Goals as goal

pub descs-init : goal.descs-init
descs-init c = λ s h can. start c.args.heap.now c.args.memory.now c.args.heads.now s (with_note c.args.by) c.args.list.now h

pub kind_of-requires : goal.kind_of-requires
kind_of-requires c =
    let s = c.requires.0 in
    let can = c.requires.2 in
    let way = c.descs.invariant s c.requires.1 can in
    (way.state, way.made.linked.heap_is, note_there c.args.heap.now c.descs.memory c.descs.heads s c.args.list.now c.args.by c.descs.d-index _ can way c.descs-test.true)

pub push-requires : goal.push-requires
push-requires c =
    let s = c.requires.0 in
    let can = c.requires.2 in
    let way = c.descs.invariant s c.requires.1 can in
    let there = note_there c.args.heap.now c.descs.memory c.descs.heads s c.args.list.now c.args.by c.descs.d-index _ can way c.descs-test.true in
    let read = c.kind_of.ensures way.state way.made.linked.heap_is there in
    (way.state, way.made.linked, note_ready c.args.heap.now c.descs.memory c.descs.heads s c.args.list.now c.args.by c.descs.d-index _ c.kind_of.result c.note_list-notes.result can way c.descs-test.true c.note_list-notes.ensures read)

pub descs-preserved : goal.descs-preserved
descs-preserved c = λ s h can.
    let way = c.descs.invariant s h can in
    let there = note_there c.args.heap.now c.descs.memory c.descs.heads s c.args.list.now c.args.by c.descs.d-index _ can way c.descs-test.true in
    let read = c.kind_of.ensures way.state way.made.linked.heap_is there in
    let ready = note_ready c.args.heap.now c.descs.memory c.descs.heads s c.args.list.now c.args.by c.descs.d-index _ c.kind_of.result c.note_list-notes.result can way c.descs-test.true c.note_list-notes.ensures read in
    note_more c.args.heap.now c.descs.memory c.push.new.memory c.descs.heads c.push.new.heads s c.args.list.now c.args.by c.descs.d-index _ c.kind_of.result c.note_list-notes.result
    c.steps_keep_facts.ensures c.ranges.by.fits can way c.descs-test.true c.note_list-notes.ensures read (c.push.ensures way.state way.made.linked ready)

pub returns : goal.returns
returns c s h can =
    all_made c.args.heap.now c.descs.memory c.descs.heads s (with_note c.args.by) c.args.list.now c.descs.d-index (c.descs.invariant s h can) c.descs-test.false
