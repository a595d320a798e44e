use Rattle.volume_again.proofs.MadeAgain as A
use Rattle.volume_again.proofs.law.text_again.Goals as goal

pub returns : goal.returns
returns c = A.text_again
