use Rattle.std.proofs.Common.{sym}
use Rattle.heap_trials.proofs.Boards.{test_board}
use Rattle.heap_trials.proofs.board.lists_over.Goals as goal

pub new-requires : goal.new-requires
new-requires c = test_board c.args.len c.args.pages c.in_ok-roms.roms c.requires.len c.requires.pages c.in_ok-roms.ensures

pub returns : goal.returns
returns c = (_, (sym c.new.ensures.state, c.new.ensures.facts), tt)
