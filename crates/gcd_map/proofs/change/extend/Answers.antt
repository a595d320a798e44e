use Rattle.std.proofs.Common.{List, sym, subst, arith}
use Rattle.gcd_map.specs.{declared.range.GcdRange.GcdRange, Growing.Extends}
use Rattle.gcd_map.proofs.Changes.{on_ok, extended}
use Rattle.gcd_map.proofs.change.extend.Goals as goal

pub returns : goal.returns
returns c =
    let P : List GcdRange → Type 0 = λ l. Extends c.args.ranges.now c.args.from c.args.to c.args.state l in
    on_ok c.push.result _ _ (λ e. subst P (sym e)
    (rw c.saturating_sub.ensures (extended c.args.ranges.now c.args.from c.args.to c.args.state c.open_range.new.ranges c.in_ok-base.base (omega arith) c.in_ok-base.ensures))) c.push.ensures.ok
