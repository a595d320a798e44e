use lib.Seq.{take-append-add}
use Rattle.std.proofs.Common.{◌≡◌, ◌+◌, ◌++◌, length, List, ℕ, Some, ap, ◌∙◌, replicate, take, drop, arith, append-nil}
use Rattle.std.proofs.lemmas.List.{length-replicate}
use Rattle.store_model.specs.{HeapImage.hob_list, StoreState.end_place, MemoryReading.bytes_at}
use Rattle.boot_trace.proofs.HeapReads.{list_length, list_read, peeked}
use Rattle.boot_trace.proofs.hob_bytes.hob_list.Goals as goal

-- the front of a list
front_is : (xs ys : List ℕ) (n : ℕ) → n ≡ length xs → take n (xs ++ ys) ≡ xs
front_is xs ys n e =
    let at : n ≡ length xs + 0 = omega (arith, e) in
    ap (λ k. take k (xs ++ ys)) at ∙ take-append-add xs ys 0 ∙ append-nil xs

pub returns : goal.returns
returns g c = record {
  row = λ s stands needs.
      let facts = g.met.M.PeiStore.facts c.args.store.now s stands in
      let buffer = c.as_mut_slice.result.now in
      let end : c.count_hobs.result.end ≡ end_place s = (c.count_hobs.ensures.row s stands tt).end_is in
      let base : c.base.result ≡ s.base = c.base.ensures.row s stands tt in
      let zeros : c.in_ok-bytes.bytes.items ≡ replicate (c.count_hobs.result.end + 8) 0 = c.in_ok-bytes.ensures in
      let long : length c.in_ok-bytes.bytes.items ≡ c.count_hobs.result.end + 8 = ap length zeros ∙ length-replicate (c.count_hobs.result.end + 8) 0 in
      let same : length buffer ≡ length c.in_ok-bytes.bytes.items = ap length c.as_mut_slice.ensures.value in
      let len : length buffer ≡ end_place s + 8 = omega (arith, end, long, same) in
      let read : bytes_at s c.base.result (length buffer) ≡ Some (hob_list s) = ap (λ at. bytes_at s at (length buffer)) base ∙ list_read s (length buffer) facts len in
      let all : c.peek.new.into ≡ hob_list s = peeked (bytes_at s c.base.result (length buffer)) c.peek.result buffer c.peek.new.into (hob_list s) (c.peek.ensures.row s stands tt) read in
      let whole = list_length s facts in
      let kept = c.as_mut_slice.ensures.len in
      let read_len : length c.peek.new.into ≡ length (hob_list s) = ap length all in
      let size : c.in_ok-bytes.bytes.len ≡ length c.peek.new.into = omega (arith, kept, len, whole, read_len) in
      c.from_vec.ensures ∙ front_is c.peek.new.into (drop (length c.peek.new.into) c.in_ok-bytes.bytes.items) c.in_ok-bytes.bytes.len size ∙ all;
}
