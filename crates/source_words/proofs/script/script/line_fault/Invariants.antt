use Rattle.std.proofs.Common.{◌≡◌, ◌*◌, ◌≤◌, [], length, take, drop}
use Rattle.source_words.specs.Script.{causes_behind, first_fault}
use Rattle.source_words.proofs.script.script.line_fault.Given as goal

-- nothing is wrong at the lines of the blocks so far, of which there are not too many
abbrev pub invariant-search : goal.invariant-search
invariant-search l =
    (first_fault 0 (causes_behind (length l.blocks) [] l.blocks) ≡ first_fault l.place (causes_behind (length l.blocks) (take l.index l.blocks) (drop l.index l.blocks)))
    × (l.index ≤ 64) × (l.place ≤ l.index * 1025)
