use Rattle.recorded_boot.proofs.trace.by_text.ByTextChoiceSpelled.peim.Goals as goal

pub returns : goal.returns
returns c = c.named_next.ensures
