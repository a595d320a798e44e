use Rattle.std.proofs.Common.{[], ◌++◌, sym, ap, ◌∙◌}
use Rattle.explain_text.specs.KeptWays.{kept}
use Rattle.explain_text.proofs.Keeping.{fewest_kept, kept_append}
use Rattle.explain_text.proofs.ways.cheapest.Ways.either.Goals as goal

pub returns : goal.returns
returns c =
    let first = c.args.first.now in
    let second = c.args.second.now in
    let left = c.in_ok-put_all.ensures ∙ ap (λ before. kept before c.as_slice.result.now) c.new-ways.ensures ∙ ap (kept []) c.as_slice.ensures in
    c.in_ok-put_all-2.ensures ∙ ap (kept c.put_all.new.self) c.as_slice-2.ensures ∙ ap (λ before. kept before second) left ∙ sym (kept_append [] first second) ∙ fewest_kept (first ++ second)
