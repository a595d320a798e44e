use Rattle.std.proofs.Common.{◌≡◌, ◌+◌, ◌<◌, ◌≤◌, length, sym, ap, subst, ◌∙◌, arith}
use Rattle.mp_core.specs.Machine.{IsMachine}
use Rattle.mp_core.proofs.Starting.{below, below_orderly, next_starts, next_passes}
use Rattle.mp_core.proofs.machine.Machine.start_all.Goals as goal
use Rattle.mp_core.proofs.machine.Machine.start_all.Goals.{then-is_enabled_ap, else-is_enabled_ap}

pub loop-p-preserved : goal.loop-p-preserved
loop-p-preserved c =
    elim c.if-is_enabled_ap.branch [
      | then-is_enabled_ap w ↦ record {
        count = ap (λ m. length m.processors.items) w.self-is ∙ w.start.ensures.count ∙ c.loop-p.invariant.count;
        stands = λ processors cells past o h range ready.
            let count = h.count in
            let p = c.loop-p.p in
            let lt : p < processors = omega arith in
            let le : p ≤ processors = omega arith in
            let before = c.loop-p.invariant.stands processors cells past o h range ready in
            subst (IsMachine processors cells (below past c.args.job.now (c.loop-p.p + 1))) (sym w.self-is)
            (next_starts processors cells past c.loop-p.self w.start.new.self p c.args.job o lt ready before range
            (sym (c.is_enabled_ap.ensures processors cells (below past c.args.job.now p) (below_orderly processors past c.args.job.now p o le ready) before) ∙ w.if-is_enabled_ap.true)
            w.start.ensures.bsp w.start.ensures.cells w.start.ensures.count w.start.ensures.started);
      }
      | else-is_enabled_ap w ↦ record {
        count = ap (λ m. length m.processors.items) w.self-is ∙ c.loop-p.invariant.count;
        stands = λ processors cells past o h range ready.
            let count = h.count in
            let p = c.loop-p.p in
            let le : p ≤ processors = omega arith in
            let before = c.loop-p.invariant.stands processors cells past o h range ready in
            subst (IsMachine processors cells (below past c.args.job.now (c.loop-p.p + 1))) (sym w.self-is)
            (next_passes processors cells past c.loop-p.self p c.args.job.now before
            (sym (c.is_enabled_ap.ensures processors cells (below past c.args.job.now p) (below_orderly processors past c.args.job.now p o le ready) before) ∙ w.if-is_enabled_ap.false));
      }
    ]

pub returns : goal.returns
returns c = λ processors cells past o h range ready.
    let count = h.count in
    let all : c.loop-p.p ≡ processors = omega arith in
    subst (λ n. IsMachine processors cells (below past c.args.job.now n) c.loop-p.self) all (c.loop-p.invariant.stands processors cells past o h range ready)
