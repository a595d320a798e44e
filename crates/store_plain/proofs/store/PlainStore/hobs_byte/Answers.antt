use Rattle.std.proofs.Common.{◌≡◌, ◌<◌, ◌+◌, ◌-◌, ◌++◌, drop, get_or, length, subst, ap, sym, ◌∙◌, arith}
use Rattle.store_model.specs.{StoreState.hob_len, HeapImage.hobs_bytes, HeapImage.header_bytes}
use Rattle.store_plain.specs.{PlainState.state_of, Peeking.byte_of}
use Rattle.store_laws.specs.Fitting.{IsSpelled}
use Rattle.store_laws.proofs.{Fits.all_fit, Items.each_place}
use Rattle.store_plain.proofs.Heap.{byte_here, byte_later, sum_is}
use Rattle.store_plain.proofs.store.PlainStore.hobs_byte.Goals as goal

pub returns-then-place-next : goal.returns-then-place-next
returns-then-place-next c =
    let s = state_of c.args.self.now in
    let hob = c.hob-item.result in
    let value = c.as_slice-hob-items.ensures.value in
    let inside : c.hobs.hob-index < length s.hobs = subst (λ xs. c.hobs.hob-index < length xs) value c.hobs-test.true in
    let is : hob ≡ get_or s.hobs c.hobs.hob-index hob = c.hob-item.is ∙ ap (λ xs. get_or xs c.hobs.hob-index hob) value in
    let spelled : IsSpelled s hob = subst (IsSpelled s) (sym is) (each_place (IsSpelled s) s.hobs (all_fit.bodies s c.requires.facts) c.hobs.hob-index hob inside) in
    let below : c.args.place - c.hobs.at < hob_len hob = omega (arith, c.if-place-next.true, c.len.ensures.len, c.hobs.invariant.below) in
    c.hob_byte.ensures ∙ sym (byte_here s s.hobs c.hobs.at c.hobs.hob-index (c.args.place - c.hobs.at) hob (header_bytes 0xffff 8) inside is spelled below) ∙ c.hobs.invariant.byte

pub hobs-preserved : goal.hobs-preserved
hobs-preserved c =
    let s = state_of c.args.self.now in
    let hob = c.hob-item.result in
    let value = c.as_slice-hob-items.ensures.value in
    let inside : c.hobs.hob-index < length s.hobs = subst (λ xs. c.hobs.hob-index < length xs) value c.hobs-test.true in
    let is : hob ≡ get_or s.hobs c.hobs.hob-index hob = c.hob-item.is ∙ ap (λ xs. get_or xs c.hobs.hob-index hob) value in
    let i = c.hobs.hob-index in
    let sum = sum_is s.hobs i hob inside is in
    let spelled : IsSpelled s hob = subst (IsSpelled s) (sym is) (each_place (IsSpelled s) s.hobs (all_fit.bodies s c.requires.facts) i hob inside) in
    let there : c.args.place - c.hobs.at ≡ hob_len hob + (c.args.place - (c.hobs.at + c.len.result)) = omega (arith, c.if-place-next.false, c.len.ensures.len) in
    record {
      at = omega (arith, sum, c.hobs.invariant.at, c.len.ensures.len);
      below = c.if-place-next.false;
      byte = ap (λ n. byte_of (hobs_bytes s (c.hobs.at + n) (drop (i + 1) s.hobs) ++ header_bytes 0xffff 8) (c.args.place - (c.hobs.at + c.len.result))) c.len.ensures.len
          ∙ sym (byte_later s s.hobs c.hobs.at i (c.args.place - c.hobs.at) (c.args.place - (c.hobs.at + c.len.result)) hob (header_bytes 0xffff 8) inside is spelled there) ∙ c.hobs.invariant.byte;
    }
