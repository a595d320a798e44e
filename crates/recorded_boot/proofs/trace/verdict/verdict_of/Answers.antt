use Rattle.std.proofs.Common.{◌≢◌, List, sym, ◌∙◌, subst}
use Rattle.boot_io.specs.Faults.{IsPrefix}
use Rattle.boot_model.specs.{FreeRun.AreFreeLines, declared.line.Line.Line}
use Rattle.recorded_boot.specs.{Spelled.met, Spelled.whole, Verdict.IsFirstOff}
use Rattle.recorded_boot.proofs.{Telling.met_begins, FirstOff.off_at_its_line, FirstOff.off_behind_the_whole}
use Rattle.recorded_boot.proofs.trace.verdict.verdict_of.Goals as goal

pub returns-in-Ok-2 : goal.returns-in-Ok-2
returns-in-Ok-2 c board catalog fuel told h =
    let s = c.args.text.now in
    let Lines : List Line → Type 0 = AreFreeLines board catalog fuel in
    let all = rw c.in-Ok-2.is at h in
    let other : met s ≢ whole s = λ e. let never = c.if-is_at_end.ensures.1 (all.held.right, e) in absurd (cc) in
    let begins = subst (λ t. IsPrefix (met s) t) all.held.whole_is (met_begins s) in
    subst (IsFirstOff Lines told) (sym c.line.ensures) (off_behind_the_whole Lines told (met s) s begins (λ e. other (e ∙ sym all.held.whole_is)) all)

pub returns-in-Off : goal.returns-in-Off
returns-in-Off c board catalog fuel told h =
    let s = c.args.text.now in
    let Lines : List Line → Type 0 = AreFreeLines board catalog fuel in
    let off = rw c.in-Off.is at (rw c.in-Err.is at h) in
    let begins = subst (λ t. IsPrefix (met s) t) off.whole_is (met_begins s) in
    subst (IsFirstOff Lines told) (sym c.line-in-Off.ensures) (off_at_its_line Lines told (met s) begins off.off)
