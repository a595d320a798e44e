use Rattle.std.proofs.Common.{arith, ℕ, List, length, IsAscii}
use Rattle.std.proofs.{lemmas.Str.IsUtf8-from_ascii, lemmas.Bool.cases_lt, lemmas.List.get_or_past}
use Rattle.boot_plan.specs.Range.{IsName}
use Rattle.boot_core.proofs.plan_files.job.text_of.Goals as goal
use mathlib.Core.Logic.{inl, inr}

ascii : (name : List ℕ) → IsName name → IsAscii name
ascii name is i =
    elim (cases_lt i (length name)) [
      | inl under ↦ omega (arith, is.visible i 0 under)
      | inr over ↦ omega (arith, get_or_past name i 0 over)
    ]

pub unreachable-requires : goal.unreachable-requires
unreachable-requires c = c.in-Err.ensures.cases.0 (IsUtf8-from_ascii c.args.name.now (ascii c.args.name.now c.requires))
