use Rattle.std.proofs.Common.{◌∙◌, ap, length, sym, nat_le}
use Rattle.std.proofs.lemmas.List.{length-reverse}
use Rattle.phase_parts.proofs.Room.{as_many_stand}
use Rattle.phase_parts.proofs.stack.Frames.is_full.Goals as goal

pub returns : goal.returns
returns g c =
    c.is_full.ensures.value ∙ as_many_stand (length c.self.inside.items.items) c.is_full.ensures.fits
    ∙ ap (nat_le 64) (sym (length-reverse c.self.inside.items.items) ∙ ap length c.self.view_is)
