use Rattle.std.proofs.Common.{◌≡◌, length}
use Rattle.pi_base.specs.Lists.{Each}
use Rattle.store_model.specs.HeapImage.{links_in}
use Rattle.store_plain.specs.Peeking.{IsNear}
use Rattle.store_plain.proofs.heap_byte.links_in.Given as goal

abbrev pub invariant-entries : goal.invariant-entries
invariant-entries l = record {
  links : links_in l.base l.place l.rest ≡ links_in l.base l.place l.entries;
  near : Each (IsNear l.base) l.rest;
}

abbrev pub decreases-entries : goal.decreases-entries
decreases-entries l = length l.rest
