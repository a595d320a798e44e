use Rattle.volume_again.proofs.MadeAgain.{says_itself}
use Rattle.volume_again.proofs.law.read_again.Goals as goal

pub returns : goal.returns
returns c = λ image text told fit long. says_itself (record { says = c.said_is_read.ensures.says; leads = c.said_is_read.ensures.leads; built = c.built_or_refused.ensures.built }) image text told fit long
