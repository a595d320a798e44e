use Rattle.std.proofs.Common.{◌≡◌, ◌++◌, drop, filter}
use Rattle.dxe_dispatch.specs.Passes.{has_type}
use Rattle.dxe_dispatch.proofs.passes.push_type.Given as goal

-- those that are left complete the drivers
abbrev pub invariant-numbers : goal.invariant-numbers
invariant-numbers l = l.drivers ++ filter (has_type l.catalog l.kind) (drop l.number-index l.numbers) ≡ l.fn.drivers ++ filter (has_type l.catalog l.kind) l.fn.numbers
