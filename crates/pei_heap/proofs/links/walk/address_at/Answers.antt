use Rattle.store_model.specs.HeapImage.{heap_image}
use Rattle.store_laws.specs.{Items.items, Mapped.layout_of}
use Rattle.pei_heap.proofs.Walking.{from_get, from_none, headed_at}
use Rattle.pei_heap.proofs.links.walk.address_at.Goals as goal

pub nth_address-requires : goal.nth_address-requires
nth_address-requires c =
    let s = c.requires.0 in
    let h = c.requires.2 in
    (s, c.requires.1, headed_at s c.requires.1 c.args.heap.now c.args.memory.now c.bytes.result c.args.head h (c.bytes.ensures (layout_of s) (heap_image s) h.image) c.requires.3)

pub returns-in-Some : goal.returns-in-Some
returns-in-Some c s list h head =
    from_get s.base (items s list) c.args.place c.in-Some.at
    (c.in-Some.ensures s list (headed_at s list c.args.heap.now c.args.memory.now c.bytes.result c.args.head h (c.bytes.ensures (layout_of s) (heap_image s) h.image) head))

pub returns-in-None : goal.returns-in-None
returns-in-None c s list h head =
    from_none s.base (items s list) c.args.place
    (c.in-None.ensures s list (headed_at s list c.args.heap.now c.args.memory.now c.bytes.result c.args.head h (c.bytes.ensures (layout_of s) (heap_image s) h.image) head))
