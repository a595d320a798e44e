use Rattle.std.proofs.Common.{◌≡◌, ◌∙◌, ◌++◌, ◌≤◌, ℕ, List, length, refl, ap, sym, subst}
use mathlib.Core.Logic.{inl, inr}
use Rattle.boot_io.specs.Files.{IsTold}
use Rattle.boot_model.specs.declared.line.Line.TheVariants as L
use Rattle.boot_core.proofs.PlanImages.{long_content, missed_is}
use Rattle.boot_core.proofs.plan_files.reading.read_file.Goals as goal

pub returns-in-Ok-clause-row : goal.returns-in-Ok-clause-row
returns-in-Ok-clause-row g c =
    let into = c.in-Ok.ensures.into in
    let is : c.read_whole.new.into ≡ into.0 = into.1 ∙ ap (λ old. old ++ into.0) c.new-content.ensures in (
      record {
        as_told = subst (IsTold (g.F.Files.told c.args.files.now c.args.name.now)) (sym is) into.3;
        within = subst (λ (content : List ℕ). length content ≤ c.args.limit) (sym is) into.2;
      },
      c.in-Ok.ensures.cause,
    )

pub returns-in-Err-TooLong-clause-row : goal.returns-in-Err-TooLong-clause-row
returns-in-Err-TooLong-clause-row g c =
    let name = c.args.name.now in
    let long = long_content (g.F.Files.told c.args.files.now name) c.args.limit (rw c.in-Err-TooLong.field-0-is at c.in-Err-TooLong.ensures.into).1 in
    inl (record { content = long.0; long = long.1; line_is = ap (λ n. L.RefusedLong n) c.in_ok-kept.ensures }, rw c.in-Err-TooLong.field-0-is at c.in-Err-TooLong.ensures.cause)

pub returns-in-Err-Failed-clause-row : goal.returns-in-Err-Failed-clause-row
returns-in-Err-Failed-clause-row g c =
    inr (record {
      name = c.args.name.now;
      named = refl;
      missed = missed_is _ c.args.name.now (rw c.in-Err-Failed.field-0-is at c.in-Err-Failed.ensures.missed);
      rose = (rw c.in-Err-Failed.field-0-is at c.in-Err-Failed.ensures.cause).1;
      line_is = ap (λ n. L.RefusedFile n) c.in_ok-kept.ensures;
    })
