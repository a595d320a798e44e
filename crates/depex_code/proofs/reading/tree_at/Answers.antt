use Rattle.std.proofs.Common.{◌≡◌, length, arith, ap, inl, inr, ◌⊎◌}
use Rattle.std.proofs.lemmas.List.{length_push}
use Rattle.depex_code.proofs.TreeWalk.{more_read, left-le, place-near, tree_read, is_read, is_stuck}
use Rattle.depex_code.specs.Reading.{instruction_at, BlocksAt}
use Rattle.depex_code.proofs.reading.tree_at.Goals as goal
use Rattle.depex_code.proofs.reading.tree_at.Goals.{else-opcodes-test, then-opcodes-test+in-Stuck}

pub opcodes-preserved : goal.opcodes-preserved
opcodes-preserved c =
    let longer = c.in_ok-push-in-Opcode.ensures.ok in
    record {
      read = more_read c.args.bytes.now c.opcodes.code c.opcodes.depth c.opcodes.rest.now c.in-Opcode.opcode c.in-Opcode.after c.in-Opcode.behind.now c.push.new.self
          c.opcodes.invariant.read c.in-Opcode.ensures.0 c.in-Opcode.ensures.1 longer;
      few = omega (arith, ap length longer, length_push c.opcodes.code c.in-Opcode.opcode);
    }

pub spelled-requires : goal.spelled-requires
spelled-requires c =
    let one = c.in-End.ensures.1 in
    tree_read c.args.bytes.now c.opcodes.code c.opcodes.rest.now (rw one at c.opcodes.invariant.read)

pub returns-in-End-clause-read : goal.returns-in-End-clause-read
returns-in-End-clause-read c =
    is_read c.args.bytes.now c.opcodes.code c.opcodes.rest.now c.in-End.ensures.0.0 c.args.room c.spelled.result (rw c.in-End.ensures.1 at c.opcodes.invariant.read) c.in-End.ensures.0.1 (omega arith) c.spelled.ensures

pub malformed-requires-clause-part : goal.malformed-requires-clause-part
malformed-requires-clause-part c = left-le c.args.bytes.now c.opcodes.code c.opcodes.depth c.opcodes.rest.now c.opcodes.invariant.read

pub malformed-requires-clause-near : goal.malformed-requires-clause-near
malformed-requires-clause-near c = omega (arith, place-near c.args.bytes.now c.opcodes.code c.opcodes.depth c.opcodes.rest.now c.opcodes.invariant.read)

pub returns-clause-refused : goal.returns-clause-refused
returns-clause-refused c =
    let stops : BlocksAt c.opcodes.depth (instruction_at c.opcodes.rest.now) ⊎ (length c.opcodes.code ≡ c.args.room) =
    elim c.opcodes-test.branch [ else-opcodes-test w ↦ inr (omega arith) | then-opcodes-test+in-Stuck w ↦ inl w.in-Stuck.ensures ] in
    rw c.malformed.ensures (is_stuck c.args.bytes.now c.opcodes.code c.opcodes.depth c.opcodes.rest.now c.args.from c.args.room c.opcodes.invariant.read c.opcodes.invariant.few stops)
