use Rattle.volume_again.proofs.BuiltTexts as A
use Rattle.volume_again.proofs.law.made_again.Goals as goal

pub returns : goal.returns
returns c = A.made_again
