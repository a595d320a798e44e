use Rattle.std.proofs.Common.{◌≡◌, ◌+◌, ◌-◌, ◌++◌, sym, ◌∙◌, arith}
use Rattle.store_model.specs.StoreState.{handoff_len}
use Rattle.store_model.specs.HeapImage.{hobs_bytes, header_bytes, handoff_body}
use Rattle.store_plain.specs.PlainState.{state_of}
use Rattle.store_plain.proofs.Heap.{byte_left, byte_right}
use Rattle.store_plain.proofs.store.PlainStore.list_byte.Goals as goal

pub returns-then-place-lt-HANDOFF_LEN : goal.returns-then-place-lt-HANDOFF_LEN
returns-then-place-lt-HANDOFF_LEN c =
    let s = state_of c.args.self.now in
    c.handoff_byte.ensures ∙ sym (byte_left (header_bytes 1 handoff_len ++ handoff_body s) (hobs_bytes s 56 s.hobs ++ header_bytes 0xffff 8) c.args.place c.if-place-lt-HANDOFF_LEN.true)

pub returns-else-place-lt-HANDOFF_LEN : goal.returns-else-place-lt-HANDOFF_LEN
returns-else-place-lt-HANDOFF_LEN c =
    let s = state_of c.args.self.now in
    let there : c.args.place ≡ 56 + (c.args.place - 56) = omega (arith, c.if-place-lt-HANDOFF_LEN.false) in
    c.hobs_byte.ensures ∙ sym (byte_right (header_bytes 1 handoff_len ++ handoff_body s) (hobs_bytes s 56 s.hobs ++ header_bytes 0xffff 8) c.args.place (c.args.place - 56) there)
