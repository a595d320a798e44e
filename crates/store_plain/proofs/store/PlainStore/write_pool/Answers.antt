use Rattle.std.proofs.Common.{◌≡◌, ◌+◌, ap, sym, ◌∙◌, arith, Some, false, nat_lt, length}
use Rattle.std.proofs.lemmas.Bool.Decides.{nat_tests}
use Rattle.store_model.specs.{declared.state.Body.TheVariants.Bytes, Service.Pool.written}
use Rattle.store_plain.specs.PlainState.{state_of}
use Rattle.store_laws.proofs.Places.{body_of_hob, changed_hob, sum_of_changed}
use Rattle.store_plain.proofs.store.PlainStore.write_pool.Goals as goal

pub write-requires-clause-bytes : goal.write-requires-clause-bytes
write-requires-clause-bytes c =
    let old : c.index_mut.result.now.body ≡ Bytes c.requires.0 = body_of_hob _ 56 c.args.pool.offset c.in-Some.index _ _ c.in-Some.ensures.inside c.in-Some.ensures.here c.index_mut.ensures.value c.requires.1 in
    rw old tt

pub write-requires-clause-room : goal.write-requires-clause-room
write-requires-clause-room c =
    let old : c.index_mut.result.now.body ≡ Bytes c.requires.0 = body_of_hob _ 56 c.args.pool.offset c.in-Some.index _ _ c.in-Some.ensures.inside c.in-Some.ensures.here c.index_mut.ensures.value c.requires.1 in
    rw old (grind (arith, c.if-at-bytes.false, c.requires.2))

pub invariant_of-self : goal.invariant_of-self
invariant_of-self c =
    let s = c.args.self.now in
    record {
      ended = s.ended ∙ ap (λ n. 56 + n) (sym (sum_of_changed s.hobs.items c.in-Some.index c.index_mut.result.now c.write.new.self c.in-Some.ensures.inside c.index_mut.ensures.value c.write.ensures.len));
      room = s.room;
      heap = s.heap;
      region_end = s.region_end;
      early = s.early;
      low = s.low;
    }

pub returns : goal.returns
returns c =
    let s = c.args.self.now in
    let told = changed_hob (written c.args.at c.args.bytes.now) s.hobs.items 56 c.args.pool.offset c.in-Some.index c.index_mut.result.now c.write.new.self c.in-Some.ensures.inside c.in-Some.ensures.here c.index_mut.ensures.value c.write.ensures.written in
    let fits : nat_lt c.args.pool.size (c.args.at + length c.args.bytes.now) ≡ false = grind (arith, nat_tests, c.if-at-bytes.false) in
    rw fits (ap (λ hobs. Some (record (state_of s) { hobs = hobs })) told)
