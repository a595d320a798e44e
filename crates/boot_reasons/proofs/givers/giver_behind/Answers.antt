use Rattle.std.proofs.Common.{◌≡◌, refl, sym, ap, ◌∙◌}
use Rattle.explain_text.specs.declared.reasons.Giver.{Giver}
use Rattle.explain_text.specs.declared.reasons.Giver.TheVariants.{Core, Module, Absent}
use Rattle.boot_reasons.specs.Noting.{giver_behind, giver_or}
use Rattle.boot_reasons.proofs.givers.giver_behind.Goals as goal

-- the one who had it keeps it
stays : (before actor : Giver) → (before ≡ Absent → ⊥) → before ≡ giver_or before actor
stays Core actor had = refl
stays (Module number) actor had = refl
stays Absent actor had = absurd (had refl)

pub returns-then-not-there : goal.returns-then-not-there
returns-then-not-there c = sym (ap (λ there. giver_behind c.args.before there c.args.actor) c.if-not-there.true)

pub returns-in-Absent : goal.returns-in-Absent
returns-in-Absent c = sym (ap (λ there. giver_behind c.args.before there c.args.actor) c.if-not-there.false ∙ ap (λ before. giver_or before c.args.actor) c.in-Absent.is)

pub returns-in_default : goal.returns-in_default
returns-in_default c = stays c.args.before c.args.actor c.in_default.not-Absent ∙ sym (ap (λ there. giver_behind c.args.before there c.args.actor) c.if-not-there.false)
