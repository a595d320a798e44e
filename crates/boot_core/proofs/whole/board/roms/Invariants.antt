use Rattle.std.proofs.Common.{◌≡◌, ◌++◌, drop}
use Rattle.std.specs.Vec.Iter.{into_iter_items}
use Rattle.boot_model.specs.PlanBoard.{roms_of}
use Rattle.boot_core.proofs.whole.board.roms.Given as goal

-- what was mapped, and what is left, make the whole
abbrev pub invariant-entries : goal.invariant-entries
invariant-entries l = l.roms ++ roms_of (drop l.entry-index l.entries) (into_iter_items l.left) ≡ roms_of l.entries l.fn.images
