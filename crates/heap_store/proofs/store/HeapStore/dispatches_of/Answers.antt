use Rattle.std.proofs.Common.{arith, sym}
use Rattle.pi_base.specs.Guids.{same_guid}
use Rattle.heap_store.proofs.Counted.{counted_all, counted_end, counted_first, counted_more, one_most}
use Rattle.heap_store.proofs.store.HeapStore.dispatches_of.Goals as goal

pub notes-init : goal.notes-init
notes-init c = λ s h. counted_first s c.args.guid.now c.entries_are_told.ensures h.linked.heap_is.state

pub entry_behind-requires : goal.entry_behind-requires
entry_behind-requires c =
    let s = c.requires.0 in
    let h = c.requires.1 in
    (s, h.linked, (c.notes.invariant s h).there)

pub overflow_add-count : goal.overflow_add-count
overflow_add-count c =
    let counted = c.notes.invariant c.requires.0 c.requires.1 in
    let few = counted.few in
    let passed = c.notes-test.true in
    let most = one_most (same_guid c.args.guid.now c.in-Some.told.guid) in
    let one = c.one_if_same-count.ensures in
    omega (arith, few, passed, most, one)

pub notes-preserved : goal.notes-preserved
notes-preserved c = λ s h.
    let counted = c.notes.invariant s h in
    counted_more s c.args.guid.now c.notes.count c.notes.node c.notes._note c.in-Some.told c.one_if_same-count.result counted c.entries_are_told.ensures h.linked.heap_is.state
    (sym (c.in-Some.ensures s h.linked counted.there)) c.one_if_same-count.ensures

pub returns-in-None : goal.returns-in-None
returns-in-None c s h any =
    let counted = c.notes.invariant s h in
    counted_end s c.args.guid.now c.notes.count c.notes.node c.notes._note counted c.entries_are_told.ensures (c.in-None.ensures s h.linked counted.there)

pub returns : goal.returns
returns c s h any = counted_all s c.args.guid.now c.notes.count c.notes.node c.notes._note (c.notes.invariant s h) c.notes-test.false
