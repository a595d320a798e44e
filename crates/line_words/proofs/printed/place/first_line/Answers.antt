use Rattle.std.proofs.Common.{◌≡◌, ◌+◌, ◌-◌, ◌∙◌, arith, length, take, drop, ap, sym, take_all, drop-drop}
use Rattle.std.proofs.lemmas.List.{take_rest}
use Rattle.line_words.proofs.LineFeeds.{front_lacks, feed_cut}
use Rattle.line_words.proofs.printed.place.first_line.Goals as goal

pub returns-in-empty : goal.returns-in-empty
returns-in-empty c =
    let text = c.args.text.now in
    front_lacks text text c.place_of.result c.place_of.ensures.first (sym (take_all c.place_of.result text (omega (arith, c.split_at.ensures.back_len, c.in-empty.len_below))))

pub returns-in-len1-up : goal.returns-in-len1-up
returns-in-len1-up c =
    let text = c.args.text.now in
    let n = c.place_of.result in
    let back = c.split_at.result.1.now in
    let rest : take (length back - 1) (drop 1 back) ≡ drop (n + 1) text = take_rest back 1 ∙ ap (drop 1) c.split_at.ensures.back ∙ drop-drop 1 n text in (
      rw (rest, c.split_at.ensures.front) (feed_cut text n c.place_of.ensures.first (omega (arith, c.split_at.ensures.back_len, c.in-len1-up.len_at_least))),
      front_lacks text c.split_at.result.0.now n c.place_of.ensures.first c.split_at.ensures.front,
    )
