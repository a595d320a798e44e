use Rattle.std.proofs.Common.{refl}
use Rattle.volume_text.specs.Open.{built_of}
use Rattle.volume_again.proofs.MadeAgain.{refused_so}
use Rattle.volume_again.proofs.law.refused_for_room.Goals as goal

pub returns : goal.returns
returns c = λ image text fault told fit long refused.
    let s = c.read_again.ensures image text told fit long in
    refused_so c.one_volume.ensures.apart image text fault told s refused (built_of s.volume) refl
