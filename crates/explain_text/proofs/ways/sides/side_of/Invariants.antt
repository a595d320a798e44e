use Rattle.std.proofs.Common.{◌≡◌, [], ◌∷◌, Some, length}
use Rattle.explain_text.specs.Sides.{side_of, sides_behind}
use Rattle.explain_text.proofs.ways.sides.side_of.Given as goal

-- behind the opcodes that are left the whole tree stands alone
abbrev pub invariant-opcodes : goal.invariant-opcodes
invariant-opcodes g l = sides_behind (g.G.GuidSet.has_guid l.set) l.rest l.sides ≡ Some (side_of (g.G.GuidSet.has_guid l.set) l.tree ∷ [])

abbrev pub decreases-opcodes : goal.decreases-opcodes
decreases-opcodes g l = length l.rest
