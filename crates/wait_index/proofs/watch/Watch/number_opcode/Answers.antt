use Rattle.std.proofs.Common.{sym, subst}
use Rattle.depex_code.specs.declared.opcode.Opcode.{Opcode}
use Rattle.wait_index.specs.Watching.{Covers, opcode_pushes}
use Rattle.wait_index.proofs.watch.Watch.number_opcode.Goals as goal

pub returns-in_ok-slot_for : goal.returns-in_ok-slot_for
returns-in_ok-slot_for c =
    let done = c.in_ok-slot_for.ensures in
    let Has : Opcode → Type 0 = λ opcode. Covers (λ guid. opcode_pushes guid opcode) c.args.self.now c.slot_for.new.self in
    record { numbering = done.numbering; covers = subst Has (sym c.in-Push.is) done.covers }
