use Rattle.std.proofs.Common.{◌≡◌, [], length}
use Rattle.store_model.specs.StoreState.{StoreState}
use Rattle.recorded_boot.specs.{Against.is_installed, Code.lacking_from}
use Rattle.recorded_boot.proofs.follow.lacking.lacking_in.Given as goal

-- what was found, with what the opcodes that are left add, is the whole
abbrev pub invariant-opcodes : goal.invariant-opcodes
invariant-opcodes g l =
    (s : StoreState) → g.M.PeiStore.stands_for l.installed.store.now s
    → lacking_from (is_installed l.phase s l.installed.handles.now) l.found l.rest ≡ lacking_from (is_installed l.phase s l.installed.handles.now) [] l.code

abbrev pub decreases-opcodes : goal.decreases-opcodes
decreases-opcodes g l = length l.rest
