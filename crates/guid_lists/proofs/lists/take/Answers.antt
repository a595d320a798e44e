use Rattle.std.proofs.Common.{◌≡◌, ◌<◌, length, get_or, sym, ◌∙◌, ap, arith, remove}
use Rattle.guid_lists.proofs.Rising.{at, taken_out, not_there}
use Rattle.guid_lists.proofs.lists.take.Goals as goal
use Rattle.guid_lists.proofs.lists.take.Goals.{else-at-len-via-then-at-len+else-index-number, else-at-len-via-else-at-len}

pub returns-then-index-number : goal.returns-then-index-number
returns-then-index-number c =
    let n = c.args.number in
    let xs = c.args.numbers.now.items in
    let d = c.index.result.now in
    let place : c.place_of-at.result ≡ at n xs = rw c.deref.ensures.value at c.place_of-at.ensures.place in
    let len = c.len.ensures in
    let low = c.if-at-len.true in
    let below : at n xs < length xs = omega (arith, place, len, low) in
    let is : get_or xs (at n xs) d ≡ n = sym (ap (λ k. get_or xs k d) place) ∙ sym c.index.ensures ∙ c.if-index-number.true in
    c.remove.ensures.items ∙ ap (remove xs) place ∙ taken_out n d xs below is

pub returns-else-at-len : goal.returns-else-at-len
returns-else-at-len c =
    let n = c.args.number in
    let xs = c.args.numbers.now.items in
    let place : c.place_of-at.result ≡ at n xs = rw c.deref.ensures.value at c.place_of-at.ensures.place in
    let len = c.len.ensures in
    elim c.else-at-len.branch [
      | else-at-len-via-then-at-len+else-index-number w ↦
          let d = w.index.result.now in
          sym (not_there n d xs c.requires (λ below is. w.if-index-number.false (w.index.ensures ∙ ap (λ k. get_or xs k d) place ∙ is)))
      | else-at-len-via-else-at-len w ↦ let high = w.if-at-len.false in sym (not_there n 0 xs c.requires (λ below is. omega (arith, place, len, high, below)))
    ]
