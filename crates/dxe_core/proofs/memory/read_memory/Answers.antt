use Rattle.dxe_core.proofs.Discovered.{reads}
use Rattle.dxe_core.proofs.memory.read_memory.Goals as goal

pub returns : goal.returns
returns g c = record {
  row = λ catalog services m stands has. reads catalog m c.args.frame.now c.args.v c.args.n services c.peek-read.result c.answered.result has (c.peek-read.ensures m.store stands tt) c.answered.ensures;
}
