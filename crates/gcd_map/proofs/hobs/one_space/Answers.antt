use Rattle.gcd_map.proofs.OneSpace.{IsOneWalk, spaces_same, faults_same, spaces_apart, some_space}
use Rattle.gcd_map.proofs.hobs.one_space.Goals as goal

pub returns : goal.returns
returns c =
    let walk : IsOneWalk = record {
      lists = c.one_walk.ensures.lists;
      faults = c.one_walk.ensures.faults;
      apart = c.one_walk.ensures.apart;
      some = c.one_walk.ensures.some;
    } in
    record {
      spaces = spaces_same walk;
      faults = faults_same walk;
      apart = spaces_apart walk;
      some = some_space walk;
    }
