use Rattle.std.proofs.Common.{take}
use Rattle.dxe_core.specs.Names.{NamesGrow}
use Rattle.dxe_core.proofs.names.Names.push_all.Given as goal

-- the drivers so far have come behind those that there were
abbrev pub invariant-drivers : goal.invariant-drivers
invariant-drivers l = record {
  names : NamesGrow l.catalog l.fn.self (take l.number-index l.numbers) l.self;
}
