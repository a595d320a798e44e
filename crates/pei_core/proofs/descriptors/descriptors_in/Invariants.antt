use Rattle.std.proofs.Common.{◌≡◌, ◌++◌, length, drop, option_map}
use Rattle.boot_model.specs.Registers as R
use Rattle.pei_core.proofs.descriptors.descriptors_in.Given as goal

-- the descriptors that are found stand before those of the registers that are left
abbrev pub invariant-registers : goal.invariant-registers
invariant-registers l = record {
  found : R.descriptors_in l.registers l.list ≡ option_map (λ rest. l.found.items ++ rest) (R.descriptors_in l.registers (drop l.r-index l.list));
  count : length l.found.items ≡ l.r-index;
}
