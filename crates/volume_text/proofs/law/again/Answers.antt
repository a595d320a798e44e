use Rattle.volume_text.proofs.ReadBack as A
use Rattle.volume_text.proofs.law.again.Goals as goal

pub returns : goal.returns
returns c = A.again
