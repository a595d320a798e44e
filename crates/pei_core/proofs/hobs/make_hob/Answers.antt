use Rattle.std.proofs.Common.{refl, ap, ◌∙◌}
use Rattle.hob_codec.specs.HobView.{hob_value}
use Rattle.boot_model.specs.declared.line.CallName.TheVariants as C
use Rattle.boot_model.specs.declared.line.Extra.TheVariants as X
use Rattle.store_model.specs.Service.Hob.{create_hob}
use Rattle.boot_model.specs.PeiAction.{Called, answer_reply, hob_reply}
use Rattle.phase_parts.specs.declared.registers.Writes.TheVariants as W
use Rattle.boot_model.proofs.ScriptHobs.{script_hob}
use Rattle.pei_core.proofs.Served.{given_where, refused_taken, told_taken}
use Rattle.pei_core.proofs.Changing.{refused_none}
use Rattle.pei_core.proofs.hobs.make_hob.Goals as goal

pub create_hob-requires-clause-hob : goal.create_hob-requires-clause-hob
create_hob-requires-clause-hob g c = (script_hob c.args.kind c.args.body.now (hob_value c.in-Some.hob) c.requires.hob c.in-Some.ensures).script

pub returns-in-Ok-clause-row : goal.returns-in-Ok-clause-row
returns-in-Ok-clause-row g c frame old h =
    let mid = c.in-Ok.ensures.row old h.0 in
    let registers = frame.registers in (
      mid.0,
      told_taken C.Hob _ old mid.0 registers (X.Number c.in-Ok.address) W.Nothing c.told.result
          (given_where C.Hob _ (hob_value c.in-Some.hob) (hob_reply old frame) old frame c.in-Some.ensures
          ∙ ap (λ service. Called C.Hob (answer_reply service (λ _. registers) (λ address. X.Number address) old registers)) mid.1)
          c.told.ensures,
      mid.2,
    )

pub returns-in-Err-clause-row : goal.returns-in-Err-clause-row
returns-in-Err-clause-row g c frame old h =
    let mid = c.in-Err.ensures.row old h.0 in
    let registers = frame.registers in (
      mid.0,
      refused_taken g.M.PeiStore.TAKES_MEMORY C.Hob _ (create_hob old (hob_value c.in-Some.hob)) (λ service. answer_reply service (λ _. registers) (λ address. X.Number address) old registers) old mid.0 registers c.in-Err.fault c.refused.result
          (given_where C.Hob _ (hob_value c.in-Some.hob) (hob_reply old frame) old frame c.in-Some.ensures) (λ _. refl) mid.1 c.refused.ensures,
      mid.2,
    )

pub returns-in-Err-clause-changes : goal.returns-in-Err-clause-changes
returns-in-Err-clause-changes g c = refused_none c.in-Err.fault C.Hob c.refused.result c.refused.ensures
