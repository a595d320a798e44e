use Rattle.std.proofs.Common.{◌≡◌, List, ℕ, Some, Err, refl, ap, inr, ◌∙◌}
use Rattle.boot_io.specs.{declared.memory_files.MemFiles.MemFiles, Files.MissedAfter}
use Rattle.boot_io.specs.MemFiles.{files_told, files_missed, failed_at, LeavesFiles}
use Rattle.boot_io.proofs.Failing.{by_fault}
use Rattle.boot_io.proofs.memory_files.MemFilesFiles.read_whole.Goals as goal

pub returns-in_default-clause-same : goal.returns-in_default-clause-same
returns-in_default-clause-same c =
    let now = c.args.self.now in
    let called : MemFiles = record now { calls = c.saturating_add-self.result } in
    let name = c.as_bytes-in_default in
    let fail = c.fail_at in
    by_fault (λ fault new. (other : List ℕ) → files_told new other ≡ files_told now other) fail.result name.result.now called fail.new.self fail.ensures.failed fail.ensures.memory (λ other. refl) (λ other. refl)

pub returns-in_default-clause-cause : goal.returns-in_default-clause-cause
returns-in_default-clause-cause c = c.fail_at.ensures.counted

pub returns-in_default-clause-missed : goal.returns-in_default-clause-missed
returns-in_default-clause-missed c =
    let now = c.args.self.now in
    let called : MemFiles = record now { calls = c.saturating_add-self.result } in
    let name = c.as_bytes-in_default in
    let fail = c.fail_at in
    by_fault (λ fault new. MissedAfter (Err fault) c.args.name.now (files_missed now) (files_missed new)) fail.result name.result.now called fail.new.self fail.ensures.failed fail.ensures.memory
    (inr (ap (λ n. Some n) name.ensures.value)) refl

pub returns-in_default-clause-left : goal.returns-in_default-clause-left
returns-in_default-clause-left c =
    let now = c.args.self.now in
    let called : MemFiles = record now { calls = c.saturating_add-self.result } in
    let name = c.as_bytes-in_default in
    let fail = c.fail_at in
    let is = c.saturating_add-self.ensures in
    by_fault (λ fault new. LeavesFiles (Err fault) c.args.name.now now new) fail.result name.result.now called fail.new.self fail.ensures.failed fail.ensures.memory
    (ap (λ n. failed_at n called) name.ensures.value ∙ ap (λ n. failed_at c.args.name.now (record now { calls = n })) is) (ap (λ n. record now { calls = n }) is)

pub returns-then-is_due-clause-same : goal.returns-then-is_due-clause-same
returns-then-is_due-clause-same c =
    let now = c.args.self.now in
    let called : MemFiles = record now { calls = c.saturating_add-self.result } in
    let name = c.as_bytes-then-is_due in
    let fail = c.fail_at-then-is_due in
    by_fault (λ fault new. (other : List ℕ) → files_told new other ≡ files_told now other) fail.result name.result.now called fail.new.self fail.ensures.failed fail.ensures.memory (λ other. refl) (λ other. refl)

pub returns-then-is_due-clause-cause : goal.returns-then-is_due-clause-cause
returns-then-is_due-clause-cause c = c.fail_at-then-is_due.ensures.counted

pub returns-then-is_due-clause-missed : goal.returns-then-is_due-clause-missed
returns-then-is_due-clause-missed c =
    let now = c.args.self.now in
    let called : MemFiles = record now { calls = c.saturating_add-self.result } in
    let name = c.as_bytes-then-is_due in
    let fail = c.fail_at-then-is_due in
    by_fault (λ fault new. MissedAfter (Err fault) c.args.name.now (files_missed now) (files_missed new)) fail.result name.result.now called fail.new.self fail.ensures.failed fail.ensures.memory
    (inr (ap (λ n. Some n) name.ensures.value)) refl

pub returns-then-is_due-clause-left : goal.returns-then-is_due-clause-left
returns-then-is_due-clause-left c =
    let now = c.args.self.now in
    let called : MemFiles = record now { calls = c.saturating_add-self.result } in
    let name = c.as_bytes-then-is_due in
    let fail = c.fail_at-then-is_due in
    let is = c.saturating_add-self.ensures in
    by_fault (λ fault new. LeavesFiles (Err fault) c.args.name.now now new) fail.result name.result.now called fail.new.self fail.ensures.failed fail.ensures.memory
    (ap (λ n. failed_at n called) name.ensures.value ∙ ap (λ n. failed_at c.args.name.now (record now { calls = n })) is) (ap (λ n. record now { calls = n }) is)
