use Rattle.std.proofs.Common.{ap, sym, subst, ◌∙◌, [], None}
use Rattle.boot_model.specs.declared.line.CallName.TheVariants as C
use Rattle.boot_model.specs.{PeiAction.Called, PeiAction.effect, Registers.number_in}
use Rattle.act_code.specs.declared.action.Action.TheVariants as A
use Rattle.phase_parts.specs.declared.registers.Writes.TheVariants as W
use Rattle.pei_core.specs.{Guids.no_changes, Taken.Does, Taken.reply_in}
use Rattle.pei_core.proofs.Served.{peek_shown}
use Rattle.pei_core.proofs.pools.read_memory.Goals as goal

pub returns-clause-row : goal.returns-clause-row
returns-clause-row g c s stands held =
    let frame = c.args.frame.now in
    let is = c.peek-read.ensures s stands tt in
    subst (λ taken. Does (effect s frame (A.Peek c.args.v c.args.n)) s frame.registers taken s) (sym c.answered.ensures)
    (peek_shown s frame c.args.n (number_in frame.registers c.args.v)
    ∙ ap (λ answer. Called C.Peek (reply_in (record { name = C.Peek; status = answer.status; extra = answer.extra; writes = W.Nothing; sweep = None; installs = record { items = [] }; changes = no_changes }) frame.registers s)) (sym is))
