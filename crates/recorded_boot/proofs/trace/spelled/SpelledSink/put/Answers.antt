use Rattle.std.proofs.Common.{refl, sym, ◌∙◌, subst}
use Rattle.boot_io.specs.Faults.{IsPrefix}
use Rattle.recorded_boot.specs.Agreement.{IsOtherAt}
use Rattle.recorded_boot.proofs.Pieces.{all_told, part_told}
use Rattle.recorded_boot.proofs.trace.spelled.SpelledSink.put.Goals as goal

pub returns-in-None-clause-text : goal.returns-in-None-clause-text
returns-in-None-clause-text c =
    let s = c.args.self.now in
    let begins = subst (λ rest. IsPrefix c.args.piece.now rest) c.behind.ensures c.in-None.ensures in
    all_told s.text.now c.args.piece.now s.at s.wrong s.within (sym c.is_some.ensures ∙ c.if-is_some.false) begins

pub returns-in-Some-clause-text : goal.returns-in-Some-clause-text
returns-in-Some-clause-text c =
    let s = c.args.self.now in
    let other = subst (λ rest. IsOtherAt rest c.args.piece.now c.in-Some.place) c.behind.ensures c.in-Some.ensures in
    part_told s.text.now c.args.piece.now s.at c.in-Some.place _ s.wrong s.within (sym c.is_some.ensures ∙ c.if-is_some.false) other refl
