use Rattle.std.proofs.Common.{◌≡◌, map, take}
use Rattle.gcd_map.specs.{SpaceMap.AfterEach, Run.IsRun}
use Rattle.gcd_map.proofs.map.GcdMap.run.Given as goal

abbrev pub invariant-commands : goal.invariant-commands
invariant-commands l = record {
  commands : map (λ step. step.0) l.steps ≡ take l.command-index l.commands;
  run : AfterEach l.fn.self l.self (λ old new. IsRun old l.steps new);
}
