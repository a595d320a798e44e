use Rattle.std.proofs.Common.{◌≡◌, true, sym, ap, ◌∙◌}
use Rattle.program_edge.specs.Starts.{is_scriptless, part_in}
use Rattle.program_edge.proofs.Noting.{noted_now}
use Rattle.program_edge.proofs.scriptless.note.Goals as goal

pub returns-in-Ok : goal.returns-in-Ok
returns-in-Ok c =
    let has_none : is_scriptless (part_in c.args.phase c.args.entry.now) ≡ true = ap is_scriptless (sym c.part_in.ensures) ∙ sym c.is_scriptless.ensures ∙ c.if-not-is_scriptless.false in
    noted_now c.args.phase c.args.entry.now c.args.names.now c.insert.new.self has_none c.in-Ok.ensures.updates.0
