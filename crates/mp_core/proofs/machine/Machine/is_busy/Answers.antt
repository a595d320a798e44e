use Rattle.std.proofs.Common.{◌<◌, not, sym, ap, subst, ◌∙◌}
use Rattle.mp_core.specs.{Machine.IsProcessor, Past.is_empty}
use Rattle.mp_core.proofs.Fairness.{is_busy-undone}
use Rattle.mp_core.proofs.machine.Machine.is_busy.Goals as goal

pub returns : goal.returns
returns c = λ processors cells past o h.
    let x = c.index.result.now in
    let p = subst (IsProcessor cells past c.args.p) (sym c.index.ensures) (h.each c.args.p x (subst (λ n. c.args.p < n) h.count c.requires)) in
    c.is_busy.ensures ∙ ap (λ ops. not (is_empty ops)) p.rest ∙ sym (is_busy-undone c.args.p past.steps o.fair)
