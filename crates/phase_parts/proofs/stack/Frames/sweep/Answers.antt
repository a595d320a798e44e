use Rattle.phase_parts.proofs.Topmost.{no_sweep, sweep_read}
use Rattle.phase_parts.proofs.stack.Frames.sweep.Goals as goal

pub returns-in-Some : goal.returns-in-Some
returns-in-Some g c = sweep_read c.args.self.now c.in-Some.frame.now c.in-Some.ensures

pub returns-in-None : goal.returns-in-None
returns-in-None g c = no_sweep c.args.self.now c.in-None.ensures
