use Rattle.std.proofs.Common.{arith}
use Rattle.store_model.specs.{declared.state.Body.TheVariants.Bytes, HeapImage.heap_image}
use Rattle.store_laws.specs.{Bodies.IsInside, Mapped.layout_of}
use Rattle.heap_store.proofs.Rows.{pool_written}
use Rattle.heap_store.proofs.store.HeapStore.write_pool.Goals as goal

pub returns : goal.returns
returns c s h =
    let is = h.0.linked.heap_is in
    let old = h.1.0 in
    let found = h.1.1 in
    let size = h.1.2 in
    let le = c.if-at-bytes.false in
    let inside : IsInside s c.args.pool.offset (Bytes old) = c.bodies_are_inside.ensures s c.args.pool.offset (Bytes old) is.state found in
    let before = inside.before in
    let room = is.state.room in
    let holds = c.put.ensures (layout_of s) (heap_image s) is.image (omega (arith, before, room, size, le)) in
    pool_written c.args.self.now s c.put.new.memory c.args.pool c.args.at old c.args.bytes.now h.0 found size le c.bodies_changed.ensures.pool
    (c.services_keep_facts.ensures.store s c.args.pool c.args.at c.args.bytes.now is.state (old, found, size)) holds
