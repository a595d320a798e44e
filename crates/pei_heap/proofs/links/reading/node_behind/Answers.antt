use Rattle.std.proofs.Common.{refl, subst, sym}
use Rattle.store_model.specs.{HeapImage.heap_image, StoreCall.IsNodeIn}
use Rattle.store_laws.specs.Mapped.{layout_of}
use Rattle.pei_heap.specs.Walk.{IsBehind}
use Rattle.pei_heap.proofs.Tellings.{behind_inside, behind_is}
use Rattle.pei_heap.proofs.links.reading.node_behind.Goals as goal

pub word_in-requires : goal.word_in-requires
word_in-requires c =
    let s = c.requires.0 in
    let h = c.requires.1 in
    let is = subst (λ node. IsNodeIn c.args.list node s) c.in-Some.is c.requires.2 in
    behind_inside s c.args.list c.bytes.result c.in-Some.node c.nodes_read.ensures.inside h.heap_is.state (c.bytes.ensures (layout_of s) (heap_image s) h.heap_is.image) is

pub returns-in-Some : goal.returns-in-Some
returns-in-Some c s h given =
    let is = subst (λ node. IsNodeIn c.args.list node s) c.in-Some.is given in
    let behind = behind_is s c.args.list c.bytes.result c.in-Some.node c.word_in.result c.nodes_read.ensures.next h.heap_is.state (c.bytes.ensures (layout_of s) (heap_image s) h.heap_is.image) is c.word_in.ensures in
    subst (λ node. IsBehind s c.args.list node c.word_in.result) (sym c.in-Some.is) behind

pub returns-in-None : goal.returns-in-None
returns-in-None c s h is = rw c.in-None.is (0, refl, c.first.ensures s h.heads_are)
