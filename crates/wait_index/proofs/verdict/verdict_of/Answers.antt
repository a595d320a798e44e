use Rattle.std.proofs.Common.{◌≡◌, Bool, true, if◌then◌else◌, sym, ap, ◌∙◌, is_some}
use denote.Enum.Bare.{same_true}
use Rattle.pi_base.specs.{contracts.phase.Phase.the_type, declared.guid.Guid.Guid, declared.phase.Phase.Phase}
use Rattle.pi_base.specs.declared.phase.Phase.TheVariants.{Pei}
use Rattle.mod_catalog.specs.declared.catalogue.Part.{Part}
use Rattle.wait_index.specs.{declared.verdict.Verdict.TheVariants.Yes, Installed.is_there}
use Rattle.wait_index.specs.Verdict.{expression_verdict, part_verdict, verdict_in}
use Rattle.wait_index.proofs.verdict.verdict_of.Goals as goal

-- a PEIM with a rank may start
ranked : (phase : Phase) (has : Guid → Bool) (part : Part) → phase ≡ Pei → is_some part.rank ≡ true → Yes ≡ part_verdict phase has part
ranked phase has part is some =
    sym (ap (λ p. part_verdict p has part) is ∙ ap (λ b. if b then Yes else expression_verdict Pei has part.expr) some)

pub returns-then-is_some-clause-verdict : goal.returns-then-is_some-clause-verdict
returns-then-is_some-clause-verdict g c =
    let has = is_there c.args.installed.now in
    ranked c.args.phase has c.in-Some.part.now (same_true the_type tt _ _ (sym c.if-eq.ensures)) (sym c.if-is_some.ensures)
    ∙ ap (verdict_in c.args.phase has) c.in-Some.ensures
