use Rattle.std.proofs.Common.{inl, inr, ◌∷◌, [], ap, sym, subst, ◌∙◌}
use Rattle.program_edge.specs.{Mistake.IsMistake, Mistake.keyword, declared.mistake.Mistake.Mistake}
use Rattle.program_edge.proofs.LimitMistakes.{base_breaks, last_breaks}
use Rattle.program_edge.proofs.limit_mistake.long_mistake.Goals.{in-Some, in-None}
use Rattle.program_edge.proofs.limit_mistake.long_mistake.Goals as goal

pub returns-in-Volume : goal.returns-in-Volume
returns-in-Volume c =
    let a = c.args in
    elim c.match-volume_rule.branch [
      | in-Some w ↦ subst (λ (mistake : Mistake). IsMistake a.line.now mistake) (sym w.result-is) (inr (base_breaks a.line.now a.first.now a.base.now a.last.now c.in_ok-number.number w.in-Some.rule c.requires c.in_ok-number.ensures w.in-Some.ensures))
      | in-None w ↦ subst (λ (mistake : Mistake). IsMistake a.line.now mistake) (sym w.result-is) (inl ((a.base.now ∷ a.last.now ∷ [], c.requires), c.in_ok-kind.ensures.found ∙ ap keyword c.in-Volume.is))
    ]

pub returns-in-Some-size_rule : goal.returns-in-Some-size_rule
returns-in-Some-size_rule c =
    let a = c.args in
    inr (last_breaks a.line.now a.first.now a.base.now a.last.now c.in_ok-size.size c.in-Some-size_rule.rule c.requires c.in_ok-size.ensures c.in-Some-size_rule.ensures.broken)

pub returns : goal.returns
returns c =
    let a = c.args in
    inr (base_breaks a.line.now a.first.now a.base.now a.last.now c.in_ok-number.number c.in_ok-rule.rule c.requires c.in_ok-number.ensures c.in_ok-rule.ensures)
