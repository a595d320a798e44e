use Rattle.boot_model.proofs.Held.{held_pool}
use Rattle.pei_core.proofs.Served.{no_pool, not_stored, stored}
use Rattle.pei_core.proofs.pools.write_pool.Goals as goal

pub returns-then-store-clause-row : goal.returns-then-store-clause-row
returns-then-store-clause-row g c old h =
    let mid = c.if-store.ensures.row old (h.0, held_pool old c.args.frame.now.registers c.args.p c.in-Some.pool h.1 c.in-Some.ensures) in
    (mid.0, stored old mid.0 c.args.frame.now _ c.in-Some.pool c.args.offset c.args.bytes.now c.told.result c.in-Some.ensures mid.1 c.told.ensures, mid.2)

pub returns-else-store-clause-row : goal.returns-else-store-clause-row
returns-else-store-clause-row g c old h =
    let mid = c.if-store.ensures.row old (h.0, held_pool old c.args.frame.now.registers c.args.p c.in-Some.pool h.1 c.in-Some.ensures) in
    (mid.0, not_stored old mid.0 c.args.frame.now _ c.in-Some.pool c.args.offset c.args.bytes.now c.refusal-else-store.result c.in-Some.ensures mid.1.0 mid.1.1 c.refusal-else-store.ensures, mid.2)

pub returns-in-None-clause-row : goal.returns-in-None-clause-row
returns-in-None-clause-row g c old h = (old, no_pool old c.args.frame.now _ c.args.offset c.args.bytes.now c.refusal.result c.in-None.ensures c.refusal.ensures, h.0)

pub store-requires : goal.store-requires
store-requires g c = record {
  state = let h = c.requires.state in (h.0, h.1, held_pool h.0 c.args.frame.now.registers c.args.p c.in-Some.pool h.2 c.in-Some.ensures);
}
