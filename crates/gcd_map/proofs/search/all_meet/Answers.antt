use Rattle.std.proofs.Common.{List, MatchBool, subst}
use Rattle.gcd_map.specs.{declared.range.GcdRange.GcdRange, Tests.EachMeets, Tests.SomeMisses}
use Rattle.gcd_map.proofs.{Covers.begins_low, Stretches.tells}
use Rattle.gcd_map.proofs.search.all_meet.Goals as goal

pub index_of-requires-clause-first : goal.index_of-requires-clause-first
index_of-requires-clause-first c = let covered = c.requires.covered in begins_low covered.0 covered.1 c.args.ranges.now c.args.base covered.2

pub returns : goal.returns
returns c = λ space limit cover within.
    tells space limit c.args.ranges.now c.args.need c.args.base c.args.end c.index_of.result c.each_meets.result cover c.requires.some within c.index_of.ensures
    (subst (λ (l : List GcdRange). MatchBool c.each_meets.result (EachMeets c.args.need c.args.end l) (SomeMisses c.args.need c.args.end l)) c.from_index.ensures c.each_meets.ensures)
