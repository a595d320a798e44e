use Rattle.std.proofs.Common.{◌≡◌, ◌+◌, ◌++◌, take, drop, length, get_or, ap, ◌∙◌, arith, length-set, slice_set, sum_by}
use Rattle.store_model.specs.{StoreState.hob_len, StoreState.range_of, Migration.moved_body, Migration.moved_hobs}
use Rattle.store_plain.specs.PlainState.{state_of}
use Rattle.store_plain.proofs.Moves.{moved_like, moved_more, rest_sum, same_then}
use Rattle.store_plain.proofs.store.PlainStore.move_hobs.Goals as goal

pub hobs-preserved : goal.hobs-preserved
hobs-preserved c =
    let p = c.args.self.now in
    let q = c.hobs.self in
    let r = c.move_hob.new.self in
    let s = state_of p in
    let to = range_of c.args.to in
    let i = c.hobs.index in
    let at = c.hobs.at in
    let d = c.index.result.now in
    let hobs = q.hobs.items in
    let h = get_or hobs i d in
    let new = record h { body = moved_body s to (at + 8) h.body } in
    let below = c.hobs-test.true in
    let here : length q.hobs.items ≡ length p.hobs.items = c.hobs.invariant.len in
    let inside = c.index.ensures in
    let set : r.hobs.items ≡ slice_set hobs i new = c.move_hob.ensures.hobs d ∙ ap (λ body. slice_set hobs i (record h { body = body })) (moved_like p q c.hobs.invariant.rest to (at + 8) h.body) in
    let len : c.len.result ≡ hob_len h = c.len.ensures.len ∙ ap hob_len c.index.ensures in
    let more = moved_more s to hobs at i d (omega (arith, below, here)) in
    let left = rest_sum hobs i d new (omega (arith, below, here)) in
    let ends : sum_by hob_len (drop (i + 1) r.hobs.items) ≡ sum_by hob_len (drop (i + 1) (slice_set hobs i new)) = ap (λ xs. sum_by hob_len (drop (i + 1) xs)) set in
    record {
      len = ap length set ∙ length-set hobs i new ∙ here;
      at = omega (arith, left, ends, len, c.hobs.invariant.at, c.move_hob.ensures.rest.end);
      moved = ap (λ xs. take (i + 1) xs ++ moved_hobs s to (at + c.len.result) (drop (i + 1) xs)) set
          ∙ ap (λ n. take (i + 1) (slice_set hobs i new) ++ moved_hobs s to (at + n) (drop (i + 1) (slice_set hobs i new))) len ∙ more ∙ c.hobs.invariant.moved;
      rest = same_then p q r c.hobs.invariant.rest c.move_hob.ensures.rest;
    }
