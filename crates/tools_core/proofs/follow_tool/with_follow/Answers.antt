use Rattle.std.proofs.Common.{◌≡◌, ℕ, List, Option, IfOk, ◌∙◌, subst, OnErr}
use Rattle.std.proofs.lemmas.Result.{err_from_is_err_and}
use Rattle.boot_core.specs.{Job.IsNamedIn, Reading.plan_limit}
use Rattle.tools_core.specs.{FileReading.IsRead, FileReading.LongOutcome, Ends.Reports}
use Rattle.tools_core.specs.FollowReport.{FollowNames, FollowOutcome, OrderTextsOutcome, long_order, long_plan, order_limit, texts_read, names_order, names_plan, names_volume}
use Rattle.tools_core.proofs.Ending.{reports_behind, reports_ok, reports_up}
use Rattle.tools_core.proofs.follow_tool.with_follow.Goals as goal

pub returns-in-Refused-2-clause-report : goal.returns-in-Refused-2-clause-report
returns-in-Refused-2-clause-report g c =
    let F = g.F.Files.faults in
    let told = g.F.Files.told c.args.files.now in
    let plan = c.args.plan.now in
    let order = c.args.order.now in
    let missed = g.F.Files.missed c.read_file-2.new.files in
    let content : IsRead (told plan) plan_limit c.in-Content.content × (F c.read_file.new.files ≡ F c.args.files.now) = rw c.in-Content.is at c.in_ok-content.ensures.reading in
    let P : Option (List ℕ) → Type 0 = λ told. Reports (LongOutcome told order_limit order) (λ n. n ≡ order) c.in-Refused-2.report
    (record { before = F c.read_file.new.files; now = F c.read_file-2.new.files; missed = missed }) in
    let refused = subst P (c.read_file.ensures.same order) (rw c.in-Refused-2.is at c.in_ok-text.ensures.reading) in
    reports_up (LongOutcome (told order) order_limit order) (FollowOutcome told plan order) (λ n. n ≡ order) (FollowNames told plan order) c.in-Refused-2.report
    (record { before = F c.args.files.now; now = F c.read_file-2.new.files; missed = missed })
    (λ s t o. long_order c.in-Content.content content.0 o) (λ n e. names_order c.in-Content.content content.0 e)
    (reports_behind (LongOutcome (told order) order_limit order) (λ n. n ≡ order) c.in-Refused-2.report (F c.args.files.now) (F c.read_file.new.files) (F c.read_file-2.new.files) missed content.1 refused)

pub returns-clause-report : goal.returns-clause-report
returns-clause-report g c =
    let F = g.F.Files.faults in
    let told = g.F.Files.told c.args.files.now in
    let mid = g.F.Files.told c.read_file-2.new.files in
    let plan = c.args.plan.now in
    let order = c.args.order.now in
    let texts = c.with_texts.result in
    let now = F c.with_texts.new.files in
    let missed = g.F.Files.missed c.with_texts.new.files in
    let told_same : mid ≡ told = λ j other. (c.read_file-2.ensures.same other ∙ c.read_file.ensures.same other) j in
    let content : IsRead (told plan) plan_limit c.in-Content.content × (F c.read_file.new.files ≡ F c.args.files.now) = rw c.in-Content.is at c.in_ok-content.ensures.reading in
    let P : Option (List ℕ) → Type 0 = λ content. IsRead content order_limit c.in-Content-2.text × (F c.read_file-2.new.files ≡ F c.read_file.new.files) in
    let text = subst P (c.read_file.ensures.same order) (rw c.in-Content-2.is at c.in_ok-text.ensures.reading) in
    let Q : (List ℕ → Option (List ℕ)) → Type 0 = λ t. IfOk texts (λ report. Reports (OrderTextsOutcome t c.in-Content.content c.in-Content-2.text) (IsNamedIn t c.in-Content.content) report
    (record { before = F c.read_file-2.new.files; now = now; missed = missed })) in
    let here = subst Q told_same (rw c.as_slice.ensures at (rw c.as_slice-2.ensures at c.with_texts.ensures.report)) in
    let up = reports_ok texts (OrderTextsOutcome told c.in-Content.content c.in-Content-2.text) (FollowOutcome told plan order) (IsNamedIn told c.in-Content.content) (FollowNames told plan order)
    (record { before = F c.read_file-2.new.files; now = now; missed = missed })
    (λ s t o. texts_read c.in-Content.content c.in-Content-2.text content.0 text.0 o) (λ n m. names_volume c.in-Content.content c.in-Content-2.text content.0 text.0 m) here in
    let R : ℕ → Type 0 = λ n. IfOk texts (λ report. Reports (FollowOutcome told plan order) (FollowNames told plan order) report (record { before = n; now = now; missed = missed })) in
    subst R (text.1 ∙ content.1) up

pub returns-in_err-content-clause-report : goal.returns-in_err-content-clause-report
returns-in_err-content-clause-report g c = rw (err_from_is_err_and c.from_residual.result c.from_residual.ensures.1).1 tt

pub returns-in_err-content-clause-memory : goal.returns-in_err-content-clause-memory
returns-in_err-content-clause-memory g c =
    rw (err_from_is_err_and c.from_residual.result c.from_residual.ensures.1).1 c.in_err-content.ensures.memory

pub returns-in_err-text-clause-report : goal.returns-in_err-text-clause-report
returns-in_err-text-clause-report g c =
    rw (err_from_is_err_and c.from_residual-in_err-text.result c.from_residual-in_err-text.ensures.1).1 tt

pub returns-in_err-text-clause-memory : goal.returns-in_err-text-clause-memory
returns-in_err-text-clause-memory g c =
    let read = rw c.in-Content.is at c.in_ok-content.ensures.reading in
    rw (err_from_is_err_and c.from_residual-in_err-text.result c.from_residual-in_err-text.ensures.1).1
    (c.in_err-text.ensures.memory ∙ read.1)

pub returns-clause-memory : goal.returns-clause-memory
returns-clause-memory g c =
    let F = g.F.Files.faults in
    let Kept : ℕ → Type 0 = λ n. OnErr c.with_texts.result (F c.with_texts.new.files ≡ n) in
    let content = rw c.in-Content.is at c.in_ok-content.ensures.reading in
    let text = rw c.in-Content-2.is at c.in_ok-text.ensures.reading in
    subst Kept (text.1 ∙ content.1) c.with_texts.ensures.memory

pub returns-in-Refused-clause-report : goal.returns-in-Refused-clause-report
returns-in-Refused-clause-report g c =
    let F = g.F.Files.faults in
    let told = g.F.Files.told c.args.files.now in
    let plan = c.args.plan.now in
    let order = c.args.order.now in
    reports_up (LongOutcome (told plan) plan_limit plan) (FollowOutcome told plan order) (λ n. n ≡ plan) (FollowNames told plan order)
    c.in-Refused.report
    (record { before = F c.args.files.now; now = F c.read_file.new.files; missed = g.F.Files.missed c.read_file.new.files })
    (λ s t o. long_plan o) (λ n e. names_plan e) (rw c.in-Refused.is at c.in_ok-content.ensures.reading)
