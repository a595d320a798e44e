use Rattle.std.proofs.Common.{◌≡◌, length}
use Rattle.pi_base.specs.Lists.{Each}
use Rattle.store_model.specs.HeapImage.{pending_links_in}
use Rattle.store_plain.specs.Peeking.{IsPendingNear}
use Rattle.store_plain.proofs.heap_byte.pending_links_in.Given as goal

abbrev pub invariant-pendings : goal.invariant-pendings
invariant-pendings l = record {
  links : pending_links_in l.base l.place l.rest ≡ pending_links_in l.base l.place l.pendings;
  near : Each (IsPendingNear l.base) l.rest;
}

abbrev pub decreases-pendings : goal.decreases-pendings
decreases-pendings l = length l.rest
