use Rattle.free_laws.proofs.PeiMoves.{moves_nothing}
use Rattle.free_laws.proofs.pei.free_moves_change_nothing.Goals as goal

pub returns : goal.returns
returns c =
    moves_nothing (record {
      opening = c.opening_has_facts.ensures;
      step = c.step_has_facts.ensures;
      start = c.starts_keep_sound.ensures;
      moves = c.moves_change_nothing.ensures;
    })
