use Rattle.std.proofs.Common.{◌≡◌, ◌≤◌, ◌++◌, length, flat_map}
use Rattle.volume_print.specs.{Places.pads_in, Spelling.pad_text}
use Rattle.volume_print.proofs.pad.put_pads.Given as goal

-- the pads of what is left come behind those that were told
abbrev pub invariant-pads : goal.invariant-pads
invariant-pads l = record {
  long : 24 ≤ length l.rest;
  told : l.out ++ flat_map pad_text (pads_in l.rest) ≡ l.fn.out ++ flat_map pad_text (pads_in l.stretch);
}

abbrev pub decreases-pads : goal.decreases-pads
decreases-pads l = length l.rest
