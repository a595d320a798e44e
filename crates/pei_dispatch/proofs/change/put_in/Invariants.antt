use Rattle.std.proofs.Common.{◌≡◌, Bool, true, List, take}
use Rattle.pi_base.specs.{Lists.Each, declared.guid.Guid.Guid}
use Rattle.mod_catalog.specs.declared.catalogue.Catalog.{Catalog}
use Rattle.wait_index.specs.Index.{IsIndex}
use Rattle.pei_dispatch.specs.Noted.{AreKnown, IsNoted}
use Rattle.pei_dispatch.proofs.change.put_in.Given as goal

-- the index is told of the GUIDs so far
abbrev pub invariant-guids : goal.invariant-guids
invariant-guids l = record {
  of_catalog : (catalog : Catalog) → IsIndex catalog l.fn.index → IsIndex catalog l.index;
  noted : (catalog : Catalog) (has : Guid → Bool) (before : List Guid) → IsIndex catalog l.fn.index → Each (λ guid. has guid ≡ true) l.guids → AreKnown has before l.fn.index
      → IsNoted catalog has before (take l.guid-index l.guids) l.fn.index l.index;
}
