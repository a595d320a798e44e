use Rattle.std.proofs.Common.{◌≡◌, false, sym, subst, ◌∙◌, arith}
use Rattle.std.specs.List.{list_any}
use Rattle.pi_base.specs.Lists.{numbers}
use Rattle.mp_core.specs.Past.{is_enabled_ap}
use Rattle.mp_core.proofs.Searching.{any_here, any_more, empty_filter}
use Rattle.mp_core.proofs.machine.Machine.has_enabled_ap.Goals as goal

pub returns-then-is_enabled_ap : goal.returns-then-is_enabled_ap
returns-then-is_enabled_ap c = λ processors cells past o h.
    let count = h.count in
    sym (empty_filter (is_enabled_ap past) (numbers 0 processors)
    ∙ any_here (is_enabled_ap past) processors c.loop-p.p (omega arith) (sym (c.is_enabled_ap.ensures processors cells past o h) ∙ c.if-is_enabled_ap.true))

pub loop-p-preserved : goal.loop-p-preserved
loop-p-preserved c = λ processors cells past o h.
    any_more (is_enabled_ap past) c.loop-p.p (c.loop-p.invariant processors cells past o h) (sym (c.is_enabled_ap.ensures processors cells past o h) ∙ c.if-is_enabled_ap.false)

pub returns : goal.returns
returns c = λ processors cells past o h.
    let count = h.count in
    let all : c.loop-p.p ≡ processors = omega arith in
    sym (empty_filter (is_enabled_ap past) (numbers 0 processors) ∙ subst (λ n. list_any (is_enabled_ap past) (numbers 0 n) ≡ false) all (c.loop-p.invariant processors cells past o h))
