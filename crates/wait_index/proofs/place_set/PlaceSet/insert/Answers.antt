use Rattle.std.proofs.Common.{◌≡◌, true, ap, arith, slice_set}
use Rattle.wait_index.specs.PlaceFlags.{count}
use Rattle.wait_index.proofs.Flags.{count_set}
use Rattle.wait_index.proofs.place_set.PlaceSet.insert.Goals as goal

pub returns-clause-counted : goal.returns-clause-counted
returns-clause-counted c =
    let e : c.set.new.self ≡ slice_set c.args.self.now c.args.place true = cc in
    omega (arith, ap count e, count_set c.args.self.now c.args.place)
