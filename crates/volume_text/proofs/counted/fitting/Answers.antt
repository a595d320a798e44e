use Rattle.std.proofs.Common.{Ok, refl, sym, ◌∙◌}
use Rattle.volume_text.proofs.Counting.{counted, counted_there, counted_not}
use Rattle.volume_text.proofs.counted.fitting.Goals as goal

pub invariant_of-result : goal.invariant_of-result
invariant_of-result c = counted _ _ _ c.in-Ok.ensures ∙ sym c.requires.here

pub returns-in-Ok : goal.returns-in-Ok
returns-in-Ok c = counted_there (Ok c.args.volume) c.args.volume _ c.in-Ok.held refl c.requires.here c.in-Ok.ensures

pub returns-in-Err : goal.returns-in-Err
returns-in-Err c = counted_not (Ok c.args.volume) c.args.volume _ c.in-Err.stop refl c.requires.here c.in-Err.ensures
