use Rattle.std.proofs.Common.{◌∙◌, ap, reverse}
use Rattle.phase_parts.proofs.Topmost.{top_ended}
use Rattle.phase_parts.proofs.stack.Frames.end.Goals as goal

pub returns : goal.returns
returns g c = ap reverse c.pop.ensures.rest ∙ top_ended c.self.inside.items.items c.args.self.now c.self.view_is
