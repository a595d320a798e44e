use Rattle.std.proofs.Common.{cond, sym, subst, ◌∙◌}
use Rattle.depex_code.specs.declared.opcode.Opcode.{Opcode}
use Rattle.wait_index.specs.Watching.{AreNoted, noted, opcode_pushes}
use Rattle.wait_index.proofs.Noting.{noted_one}
use Rattle.wait_index.proofs.watch.note_opcode.Goals as goal

pub returns-in_ok-note : goal.returns-in_ok-note
returns-in_ok-note c =
    let here = sym c.get.ensures ∙ c.in-Some.is in
    subst (λ (opcode : Opcode). AreNoted c.args.slots.now (λ guid list. cond (opcode_pushes guid opcode) (noted list c.args.number) list) c.args.lists.now.items c.note.new.lists.items) (sym c.in-Push.is)
    (noted_one c.args.slots.now c.args.lists.now.items c.note.new.lists.items c.in-Push.guid c.in-Some.slot c.args.number c.requires.apart (c.requires.below c.in-Push.guid c.in-Some.slot here) here
    c.in_ok-note.ensures)
