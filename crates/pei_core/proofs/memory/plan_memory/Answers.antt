use Rattle.std.proofs.Common.{refl, ap, ◌∙◌}
use Rattle.boot_model.specs.declared.line.CallName.TheVariants as C
use Rattle.boot_model.specs.declared.line.Extra.TheVariants.{Nothing}
use Rattle.store_model.specs.Service.Memory.{set_memory}
use Rattle.boot_model.specs.PeiAction.{Called, answer_reply, memory_reply}
use Rattle.phase_parts.specs.declared.registers.Writes.TheVariants as W
use Rattle.pei_core.proofs.Served.{given_where, not_given, refused_taken, told_taken}
use Rattle.pei_core.proofs.Changing.{refused_none}
use Rattle.pei_core.proofs.memory.plan_memory.Goals as goal

pub returns-in-Err-clause-row : goal.returns-in-Err-clause-row
returns-in-Err-clause-row g c old h =
    let mid = c.in-Err.ensures.row old h.0 in
    let registers = c.args.frame.now.registers in (
      mid.0,
      refused_taken g.M.PeiStore.TAKES_MEMORY C.Memory _ (set_memory old c.in-Some.begin c.in-Some.length) (λ service. answer_reply service (λ _. registers) (λ _. Nothing) old registers) old mid.0 registers c.in-Err.fault c.refused.result
          (given_where C.Memory _ (c.in-Some.begin, c.in-Some.length) (memory_reply old c.args.frame.now) old c.args.frame.now c.in-Some.ensures) (λ _. refl) mid.1 c.refused.ensures,
      mid.2,
    )

pub returns-in-None-clause-row : goal.returns-in-None-clause-row
returns-in-None-clause-row g c old h =
    let frame = c.args.frame.now in (
      old,
      not_given C.Memory _ (memory_reply old frame) old frame c.refusal.result c.in-None.ensures c.refusal.ensures,
      h.0,
    )

pub returns-in-Ok-clause-row : goal.returns-in-Ok-clause-row
returns-in-Ok-clause-row g c old h =
    let frame = c.args.frame.now in
    let mid = c.in-Ok.ensures.row old h.0 in (
      mid.0,
      told_taken C.Memory _ old mid.0 frame.registers Nothing W.Nothing c.told.result
          (given_where C.Memory _ (c.in-Some.begin, c.in-Some.length) (memory_reply old frame) old frame c.in-Some.ensures
          ∙ ap (λ service. Called C.Memory (answer_reply service (λ _. frame.registers) (λ _. Nothing) old frame.registers)) mid.1)
          c.told.ensures,
      mid.2,
    )

pub returns-in-Err-clause-changes : goal.returns-in-Err-clause-changes
returns-in-Err-clause-changes g c = refused_none c.in-Err.fault C.Memory c.refused.result c.refused.ensures
