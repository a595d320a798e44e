use Rattle.hob_codec.proofs.RoundTrip.{round}
use Rattle.hob_codec.proofs.read.round_trip.Goals as goal

pub returns : goal.returns
returns c = λ hob len front rest is fits. round hob len front rest is fits
