use Rattle.mp_core.proofs.Answered.{answered}
use Rattle.mp_core.proofs.laws.each_call_is_answered.Goals as goal

pub returns : goal.returns
returns c = answered
