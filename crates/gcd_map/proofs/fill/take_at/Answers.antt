use Rattle.std.proofs.Common.{subst, sym, rules}
use Rattle.gcd_map.specs.{AddressSpace.MemorySpace, SpaceMap.Shows}
use Rattle.gcd_map.proofs.Following.{allocate_fault}
use Rattle.gcd_map.proofs.fill.take_at.Goals as goal

pub returns-in-Ok : goal.returns-in-Ok
returns-in-Ok c = λ space shows.
    let r = c.in-Ok.ensures.row space shows in
    rw (sym c.in-Some.ensures.value) ((r.1.0.0, r.1.1, r.1.2), subst (λ (s : MemorySpace). Shows c.allocate.new.self s) r.1.3 r.2)

pub returns-in-Err : goal.returns-in-Err
returns-in-Err c = λ space shows.
    let r = c.in-Err.ensures.row space shows in
    rw (sym c.in-Some.ensures.value) (allocate_fault space r.0 c.in-Some.allocation c.in-Err.word _ r.1 (search rules) c.allocation_cause.ensures)
