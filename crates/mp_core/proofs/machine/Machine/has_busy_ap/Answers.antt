use Rattle.std.proofs.Common.{◌≡◌, false, ◌&&◌, sym, subst, ◌∙◌, arith}
use Rattle.std.proofs.lemmas.Bool.{and_from, and_left, and_right}
use Rattle.std.specs.List.{list_any}
use Rattle.pi_base.specs.Lists.{numbers}
use Rattle.mp_core.specs.{Past.is_enabled_ap, Schedule.is_busy}
use Rattle.mp_core.proofs.Searching.{any_here, any_more, any_filter}
use Rattle.mp_core.proofs.machine.Machine.has_busy_ap.Goals as goal
use Rattle.mp_core.proofs.machine.Machine.has_busy_ap.Goals.{else-is_enabled_ap-via-then-is_enabled_ap+else-is_busy, else-is_enabled_ap-via-else-is_enabled_ap}

pub returns-then-is_busy : goal.returns-then-is_busy
returns-then-is_busy c = λ processors cells past o h.
    let count = h.count in
    let p = c.loop-p.p in
    sym (any_filter (is_enabled_ap past) (λ q. is_busy q past.steps) (numbers 0 processors)
    ∙ any_here (λ q. is_enabled_ap past q && is_busy q past.steps) processors p (omega arith)
    (and_from (is_enabled_ap past p) (is_busy p past.steps) (sym (c.is_enabled_ap.ensures processors cells past o h) ∙ c.if-is_enabled_ap.true)
    (sym (c.is_busy.ensures processors cells past o h) ∙ c.if-is_busy.true)))

pub loop-p-preserved : goal.loop-p-preserved
loop-p-preserved c = λ processors cells past o h.
    let p = c.loop-p.p in
    any_more (λ q. is_enabled_ap past q && is_busy q past.steps) p (c.loop-p.invariant processors cells past o h)
    (elim c.else-is_enabled_ap.branch [
      | else-is_enabled_ap-via-then-is_enabled_ap+else-is_busy w ↦
          and_right (is_enabled_ap past p) (is_busy p past.steps) (sym (w.is_busy.ensures processors cells past o h) ∙ w.if-is_busy.false)
      | else-is_enabled_ap-via-else-is_enabled_ap w ↦
          and_left (is_enabled_ap past p) (is_busy p past.steps) (sym (c.is_enabled_ap.ensures processors cells past o h) ∙ w.if-is_enabled_ap.false)
    ])

pub returns : goal.returns
returns c = λ processors cells past o h.
    let count = h.count in
    let all : c.loop-p.p ≡ processors = omega arith in
    sym (any_filter (is_enabled_ap past) (λ q. is_busy q past.steps) (numbers 0 processors)
    ∙ subst (λ n. list_any (λ q. is_enabled_ap past q && is_busy q past.steps) (numbers 0 n) ≡ false) all (c.loop-p.invariant processors cells past o h))
