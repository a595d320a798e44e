use Rattle.std.proofs.Common.{◌∷◌, ◌∙◌, ap, arith, refl, not}
use Rattle.phase_parts.proofs.Room.{room}
use Rattle.phase_parts.proofs.start.begin_notification.Goals as goal

pub begin-requires : goal.begin-requires
begin-requires g c = (grind arith, room c.args.frames.now c.keep_sweep.new.self c.args.sweep c.keep_sweep.ensures c.if-is_full.ensures)

pub returns-then-is_full : goal.returns-then-is_full
returns-then-is_full g c = record {
  room = ap not c.if-is_full.ensures;
  frames = refl;
}

pub returns : goal.returns
returns g c = record {
  room = ap not c.if-is_full.ensures;
  frames = c.begin.ensures ∙ ap (λ below. c.args.notification ∷ below) c.keep_sweep.ensures;
}
