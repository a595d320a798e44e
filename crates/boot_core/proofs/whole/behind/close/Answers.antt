use Rattle.boot_core.proofs.whole.behind.close.Goals as goal

pub put_closing-requires-clause-state : goal.put_closing-requires-clause-state
put_closing-requires-clause-state g c = c.requires.state
