use Rattle.std.proofs.Common.{sym}
use Rattle.boot_trials.proofs.over_lists.boot_board.Goals as goal

pub returns : goal.returns
returns g c = c.boot_store.ensures.row _ (sym c.new-store.ensures.state, c.new-store.ensures.facts)
