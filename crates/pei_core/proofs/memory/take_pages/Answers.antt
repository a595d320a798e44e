use Rattle.std.proofs.Common.{refl, ap, sym, ◌∙◌}
use Rattle.boot_model.specs.declared.line.CallName.TheVariants as C
use Rattle.boot_model.specs.declared.line.Extra.TheVariants as X
use Rattle.store_model.specs.Service.Memory.{pages}
use Rattle.boot_model.specs.PeiAction.{Called, told}
use Rattle.phase_parts.specs.Writes.{written}
use Rattle.pei_core.proofs.{Pages.answered, Pages.some_pages, Served.refused_taken, Served.told_taken, Changing.refused_none}
use Rattle.pei_core.proofs.memory.take_pages.Goals as goal

pub returns-in-Ok-clause-row : goal.returns-in-Ok-clause-row
returns-in-Ok-clause-row g c frame old h =
    let mid = c.in-Ok.ensures.row old h.0 in
    let registers = frame.registers in (
      mid.0,
      told_taken C.Pages _ old mid.0 registers (X.Number c.in-Ok.address) c.one.result c.told.result
          (some_pages old frame c.args.r c.args.memory_type c.args.count (sym c.if-not-may_take.ensures.may)
          ∙ ap (λ service. Called C.Pages (answered old frame c.args.r service)) mid.1
          ∙ ap (λ writes. Called C.Pages (told mid.0 (written registers writes) (X.Number c.in-Ok.address))) (sym c.one.ensures))
          c.told.ensures,
      mid.2,
    )

pub returns-in-Err-clause-row : goal.returns-in-Err-clause-row
returns-in-Err-clause-row g c frame old h =
    let mid = c.in-Err.ensures.row old h.0 in (
      mid.0,
      refused_taken g.M.PeiStore.TAKES_MEMORY C.Pages _ (pages old c.args.memory_type c.args.count) (answered old frame c.args.r) old mid.0 frame.registers c.in-Err.fault c.refused.result
          (some_pages old frame c.args.r c.args.memory_type c.args.count (sym c.if-not-may_take.ensures.may)) (λ _. refl) mid.1 c.refused.ensures,
      mid.2,
    )

pub returns-in-Err-clause-changes : goal.returns-in-Err-clause-changes
returns-in-Err-clause-changes g c = refused_none c.in-Err.fault C.Pages c.refused.result c.refused.ensures
