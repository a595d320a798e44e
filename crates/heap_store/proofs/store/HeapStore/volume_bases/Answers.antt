use Rattle.std.proofs.Common.{sym, refl}
use Rattle.heap_store.proofs.Walked.{walked_all, walked_end, walked_first, walked_more}
use Rattle.heap_store.proofs.store.HeapStore.volume_bases.Goals as goal

pub hobs-init : goal.hobs-init
hobs-init c = λ s h. let facts = h.linked.heap_is.state in
    walked_first s c.new-bases.result 268435456 refl c.new-bases.ensures c.hobs_told.ensures.volumes facts (c.states_fit.ensures.hobs s facts)

pub place-requires : goal.place-requires
place-requires c =
    let s = c.requires.0 in
    let h = c.requires.1 in
    (s, h.linked.heap_is, (c.hobs.invariant s h).there)

pub push_base-requires : goal.push_base-requires
push_base-requires c =
    let s = c.requires.0 in
    let h = c.requires.1 in
    (s, h, sym (c.in-Some.ensures s h.linked.heap_is (c.hobs.invariant s h).there))

pub hobs-preserved : goal.hobs-preserved
hobs-preserved c = λ s h.
    let walked = c.hobs.invariant s h in
    walked_more s c.hobs.bases c.push_base.new.bases c.hobs.offset c.hobs._hob c.in-Some.span walked c.hobs_told.ensures.header h.linked.heap_is.state c.hobs-test.true
    (sym (c.in-Some.ensures s h.linked.heap_is walked.there)) (c.in_ok-push_base.ensures s h)

pub returns-in-None : goal.returns-in-None
returns-in-None c s h any =
    let walked = c.hobs.invariant s h in
    walked_end s c.hobs.bases c.hobs.offset c.hobs._hob walked c.hobs_told.ensures.header h.linked.heap_is.state (c.in-None.ensures s h.linked.heap_is walked.there)

pub returns : goal.returns
returns c s h any = walked_all s c.hobs.bases c.hobs.offset c.hobs._hob (c.hobs.invariant s h) c.hobs-test.false
