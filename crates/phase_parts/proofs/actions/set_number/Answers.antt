use Rattle.std.proofs.Common.{ap, ◌∙◌, ◌∷◌, None}
use Rattle.pi_base.specs.declared.word.Word.TheVariants.{Success}
use Rattle.phase_parts.specs.{Frames.answered, Writes.written}
use Rattle.phase_parts.proofs.actions.set_number.Goals as goal

pub returns : goal.returns
returns g c frame below e = c.answer.ensures frame below e ∙ ap (λ writes. answered frame (written frame.registers writes) Success None ∷ below) c.one.ensures
