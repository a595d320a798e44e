use Rattle.std.proofs.Common.{ℕ, List, ◌++◌, ap, append_assoc, flat_map, sym, ◌∙◌}
use Rattle.explain_text.specs.declared.reasons.Need.{Need}
use Rattle.explain_text.specs.HeldLines.{change_lines, need_line, waits_line}
use Rattle.explain_text.proofs.HeldText.{on_ok, three_added}
use Rattle.explain_text.proofs.held_lines.put_held.Goals as goal

pub returns : goal.returns
returns c = λ begun modules is.
    let wait = c.args.wait.now in
    let out = c.args.out.now in
    let first = waits_line wait in
    let needs : List Need → List ℕ = flat_map (need_line begun modules wait.phase wait.number) in
    let last = change_lines wait.number wait.change in
    on_ok c.put_change.result _ _
    (λ put. three_added out c.put_waits.new.out c.put_needs.new.out c.put_change.new.out first (needs wait.needs) last c.in_ok-put_waits.ensures
    (c.in_ok-put_needs.ensures begun modules is ∙ ap (λ list. c.put_waits.new.out ++ needs list) c.as_slice.ensures) put
    ∙ ap (λ t. out ++ t) (sym (append_assoc first (needs wait.needs) last))) c.put_change.ensures
