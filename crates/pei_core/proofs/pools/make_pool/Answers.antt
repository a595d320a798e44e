use Rattle.std.proofs.Common.{refl, subst, ◌+◌, slice_set}
use Rattle.boot_model.specs.{declared.frame.Register.TheVariants.PoolIn, PeiAction.answer_reply}
use Rattle.boot_model.specs.declared.line.CallName.TheVariants as C
use Rattle.boot_model.specs.declared.line.Extra.TheVariants as X
use Rattle.store_model.specs.Service.Pool.{pool}
use Rattle.pei_core.proofs.{Made.Stands, Made.pool_stands, Served.made_taken, Served.refused_taken, Changing.refused_none}
use Rattle.pei_core.proofs.pools.make_pool.Goals as goal

pub address-address-requires : goal.address-address-requires
address-address-requires g c = record {
  state =
      let h = c.requires.state in
      let mid = c.in-Ok.ensures.row h.0 h.1 in
      (mid.0, mid.2, (subst (Stands (λ made. made.offset) h.0) mid.1 (pool_stands h.0 c.args.size)).0);
}

pub returns-in-Ok-clause-row : goal.returns-in-Ok-clause-row
returns-in-Ok-clause-row g c frame old h =
    let mid = c.in-Ok.ensures.row old h.0 in (
      mid.0,
      made_taken C.Pool (pool old c.args.size) (λ made. made.offset) (λ made. PoolIn made) c.args.r old mid.0 frame.registers c.in-Ok.made c.address-address.result c.one.result c.told.result
          (pool_stands old c.args.size) mid.1 (λ place. c.address-address.ensures.row mid.0 mid.2 place) c.one.ensures c.told.ensures,
      mid.2,
    )

pub returns-in-Err-clause-row : goal.returns-in-Err-clause-row
returns-in-Err-clause-row g c frame old h =
    let mid = c.in-Err.ensures.row old h.0 in
    let registers = frame.registers in (
      mid.0,
      refused_taken g.M.PeiStore.TAKES_MEMORY C.Pool _ (pool old c.args.size) (λ service. answer_reply service (λ made. slice_set registers c.args.r (PoolIn made)) (λ made. X.Number (old.base + made.offset)) old registers) old mid.0 registers c.in-Err.fault c.refused.result
          refl (λ _. refl) mid.1 c.refused.ensures,
      mid.2,
    )

pub returns-in-Err-clause-changes : goal.returns-in-Err-clause-changes
returns-in-Err-clause-changes g c = refused_none c.in-Err.fault C.Pool c.refused.result c.refused.ensures
