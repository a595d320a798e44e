use Rattle.std.proofs.Common.{[], ap, ◌∙◌}
use Rattle.explain_text.specs.{KeptWays.kept, Ways.crossed, Ways.joined_with}
use Rattle.explain_text.proofs.Keeping.{all_crossed, fewest_kept, next_crossed}
use Rattle.explain_text.proofs.ways.cheapest.Ways.both.Goals as goal

pub firsts-preserved : goal.firsts-preserved
firsts-preserved c =
    let more = c.in_ok-put_joined.ensures ∙ ap (λ seconds. kept c.firsts.ways (joined_with seconds c.way-item.result)) c.as_slice.ensures ∙ ap (λ way. kept c.firsts.ways (joined_with c.args.second.now way)) c.way-item.is in
    next_crossed c.firsts.rest.now c.args.second.now _ c.firsts.ways c.put_joined.new.self _ c.in-len1-up.len_at_least more c.firsts.invariant

pub returns : goal.returns
returns c =
    all_crossed c.firsts.rest.now c.args.second.now c.firsts.ways _ c.in_default.len_below c.firsts.invariant ∙ fewest_kept (crossed c.args.first.now c.args.second.now)
