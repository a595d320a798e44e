use Rattle.std.proofs.Common.{◌+◌, ◌∙◌, ap}
use Rattle.std.specs.List.{splice}
use Rattle.gcd_map.proofs.Drained.{drained}
use Rattle.gcd_map.proofs.change.put.Goals as goal
use Rattle.gcd_map.proofs.change.put.Goals.{in-Ok, in-Err}

pub returns-clause-ok : goal.returns-clause-ok
returns-clause-ok c = elim c.match-splice.branch [
  | in-Ok w ↦
      let done = w.in-Ok.ensures.items in
      rw w.result-is (done.4 ∙ ap (λ new. splice c.args.ranges.now.items c.args.at (c.args.at + c.args.count) new) (drained done.1 done.0 c.args.new.items done.3 done.2.0 (done.2.1 ∙ c.args.new.ok.0)))
  | in-Err w ↦ rw w.result-is tt
]
