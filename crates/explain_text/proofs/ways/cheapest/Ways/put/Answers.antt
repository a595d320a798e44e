use Rattle.std.proofs.Common.{insert, take, ap, ◌∙◌}
use Rattle.explain_text.specs.{KeptWays.place_of, Ways.cost, Ways.placed}
use Rattle.explain_text.proofs.Keeping.{put_in}
use Rattle.explain_text.proofs.ways.cheapest.Ways.put.Goals as goal

pub returns : goal.returns
returns c =
    let way = c.args.way in
    let old = c.self.inside.items.items in
    let at = c.place_of-at.ensures.place ∙ ap (λ n. place_of n c.as_slice.result.now) c.cost.ensures ∙ ap (place_of (cost way)) c.as_slice.ensures.value in
    c.truncate.ensures.items ∙ ap (take 16) (c.in-Ok.ensures.items ∙ ap (λ n. insert old n way) at ∙ put_in way old ∙ ap (placed way) c.self.view_is)
