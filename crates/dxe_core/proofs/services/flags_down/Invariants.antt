use Rattle.std.proofs.Common.{◌≡◌, false, replicate}
use Rattle.dxe_core.proofs.services.flags_down.Given as goal

abbrev pub invariant-flags : goal.invariant-flags
invariant-flags l = record { all : l.flags ≡ replicate l._number false }
