use Rattle.std.proofs.Common.{sym, ◌∙◌}
use Rattle.pei_dispatch.specs.View.{view_of}
use Rattle.pei_dispatch.proofs.whose_turn.in_turn.Goals as goal

pub returns-in-None-clause-kept : goal.returns-in-None-clause-kept
returns-in-None-clause-kept g c m now = record {
  machine = now.machine;
  parts = record {
    shows = c.choose_from.ensures.shows (view_of m) now.parts.shows;
    place = now.parts.place ∙ sym c.choose_from.ensures.cursor;
    walked = c.choose_from.ensures.walked ∙ now.parts.walked;
  };
  within = now.within;
}
