use Rattle.std.proofs.Common.{◌+◌, ap, sym, ◌∙◌}
use Rattle.store_model.specs.{declared.state.Body.TheVariants.Node, Service.Queue.zeroed}
use Rattle.store_plain.specs.PlainState.{state_of}
use Rattle.store_laws.proofs.Places.{body_of_hob, changed_hob, sum_of_changed}
use Rattle.store_plain.proofs.store.PlainStore.zero_node.Goals as goal

pub zero-requires : goal.zero-requires
zero-requires c = body_of_hob c.args.self.now.hobs.items 56 c.args.place c.in-Some.index c.index_mut.result.now Node c.in-Some.ensures.inside c.in-Some.ensures.here c.index_mut.ensures.value c.requires

pub invariant_of-self : goal.invariant_of-self
invariant_of-self c =
    let s = c.args.self.now in
    record {
      ended = s.ended ∙ ap (λ n. 56 + n) (sym (sum_of_changed s.hobs.items c.in-Some.index c.index_mut.result.now c.zero.new.self c.in-Some.ensures.inside c.index_mut.ensures.value c.zero.ensures.len));
      room = s.room;
      heap = s.heap;
      region_end = s.region_end;
      early = s.early;
      low = s.low;
    }

pub returns : goal.returns
returns c =
    let s = c.args.self.now in
    let told = changed_hob zeroed s.hobs.items 56 c.args.place c.in-Some.index c.index_mut.result.now c.zero.new.self c.in-Some.ensures.inside c.in-Some.ensures.here c.index_mut.ensures.value c.zero.ensures.zeroed in
    ap (λ hobs. record (state_of s) { hobs = hobs }) (sym told)
