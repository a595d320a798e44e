use Rattle.std.proofs.Common.{◌≡◌, ◌-◌, Some, None, length, ap, sym, ◌∙◌, arith, true≢false, is_some}
use Rattle.phys_mem.specs.Regions.{bytes_at, rom_regions}
use Rattle.store_model.specs.{HeapImage.heap_image, MemoryReading.rom_bytes}
use Rattle.store_laws.specs.Mapped.{layout_of}
use Rattle.pei_heap.proofs.Descriptors.{guid_inside, guid_outside, in_volume}
use Rattle.pei_heap.proofs.Volumes.{read_long, volumes_are}
use Rattle.pei_heap.proofs.links.descriptor.read_guid.Goals as goal

pub guid_in-requires : goal.guid_in-requires
guid_in-requires c =
    let s = c.requires.0 in
    let is = c.requires.1 in
    let image : c.bytes.result ≡ heap_image s = c.bytes.ensures (layout_of s) (heap_image s) is.image in
    let size : length c.bytes.result ≡ s.len = ap length image ∙ c.image_facts.ensures s is.state in
    let inside = c.contains.ensures.0 c.if-contains.true in
    let base = is.image.base in
    let len = is.image.len in
    omega (arith, size, inside.0, inside.1, base, len)

pub returns-then-contains : goal.returns-then-contains
returns-then-contains c s is has =
    let image : c.bytes.result ≡ heap_image s = c.bytes.ensures (layout_of s) (heap_image s) is.image in
    let inside = c.contains.ensures.0 c.if-contains.true in
    let base = is.image.base in
    let len = is.image.len in
    c.guid_in.ensures ∙ guid_inside s c.bytes.result (c.args.address - c.args.heap.now.span.base) c.args.address (c.image_facts.ensures s is.state) image (omega (arith, inside.0, base)) (omega (arith, inside.1, base, len)) (ap (λ n. c.args.address - n) base)

pub at-requires : goal.at-requires
at-requires c =
    let told : Some c.in-Some.guid.now ≡ bytes_at (rom_regions c.args.memory.now) c.args.address 16 = c.in-Some.ensures in
    let long = read_long (rom_regions c.args.memory.now) c.args.address 16 c.in-Some.guid.now (sym told) in
    omega (arith, long)

pub unreachable-requires : goal.unreachable-requires
unreachable-requires c =
    let s = c.requires.0 in
    let is = c.requires.1 in
    let base = is.image.base in
    let len = is.image.len in
    let told : None ≡ bytes_at (rom_regions c.args.memory.now) c.args.address 16 = c.in-None.ensures in
    let none : rom_bytes s.board.roms c.args.address 16 ≡ None = sym (told ∙ volumes_are (layout_of s) (heap_image s) c.args.memory.now c.args.address 16 is.image.has) in
    let some = in_volume s c.args.address c.requires.2 (λ e. true≢false (sym (c.contains.ensures.1 (omega (arith, e.0, base), omega (arith, e.1, base, len))) ∙ c.if-contains.false)) in
    true≢false (sym some ∙ ap is_some none)

pub returns : goal.returns
returns c s is has =
    let base = is.image.base in
    let len = is.image.len in
    let told : Some c.in-Some.guid.now ≡ bytes_at (rom_regions c.args.memory.now) c.args.address 16 = c.in-Some.ensures in
    let long = read_long (rom_regions c.args.memory.now) c.args.address 16 c.in-Some.guid.now (sym told) in
    let found : rom_bytes s.board.roms c.args.address 16 ≡ Some c.in-Some.guid.now = sym (told ∙ volumes_are (layout_of s) (heap_image s) c.args.memory.now c.args.address 16 is.image.has) in
    c.at.ensures
    ∙ guid_outside s c.in-Some.guid.now c.args.address (c.image_facts.ensures s is.state) (λ e. true≢false (sym (c.contains.ensures.1 (omega (arith, e.0, base), omega (arith, e.1, base, len))) ∙ c.if-contains.false)) found long
