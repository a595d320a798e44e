use Rattle.volume_again.proofs.MadeAgain.{made_again}
use Rattle.volume_again.proofs.law.made_of_its_text.Goals as goal

pub returns : goal.returns
returns c = λ image text again told fit long leads.
    let s = c.read_again.ensures image text told fit long in
    made_again image text again told fit long s (c.built_or_refused.ensures.built text s.volume again s.describes leads)
