use Rattle.explain_text.specs.Flags.{flag}
use Rattle.explain_text.proofs.HeldText.{Walked}
use Rattle.explain_text.proofs.held_lines.put_told.Given as goal

abbrev pub invariant-told : goal.invariant-told
invariant-told l = Walked l.links l.fn.first l.place (flag l.started) l.counter l.fn.out l.out
