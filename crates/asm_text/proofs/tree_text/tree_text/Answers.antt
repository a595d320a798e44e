use Rattle.std.proofs.Common.{[], ◌∷◌, arith, ◌≡◌, sym, ◌∙◌}
use Rattle.asm_text.specs.ExpressionText.{tree_text}
use Rattle.asm_text.proofs.Stacks.{whole_stack, next_built, last_stack, only_last}
use Rattle.asm_text.proofs.tree_text.tree_text.Goals as goal

pub put_opcode-requires : goal.put_opcode-requires
put_opcode-requires c =
    let code = c.code-code.result.now in
    let here = c.loop-opcode.invariant in
    let next = next_built code c.loop-opcode.opcode-index _ [] here.0 (c.args.tree.now ∷ []) c.loop-opcode-test.true (whole_stack code c.args.tree.now c.code-code.ensures) here.2 in
    (here.0, next.0, here.1, next.1)

pub loop-opcode-preserved : goal.loop-opcode-preserved
loop-opcode-preserved c =
    let code = c.code-code.result.now in
    let here = c.loop-opcode.invariant in
    let next = next_built code c.loop-opcode.opcode-index _ [] here.0 (c.args.tree.now ∷ []) c.loop-opcode-test.true (whole_stack code c.args.tree.now c.code-code.ensures) here.2 in
    (next.0, c.in_ok-put_opcode.ensures here.0 next.0 here.1 next.1, next.2)

pub last_text-requires : goal.last_text-requires
last_text-requires c =
    let here = c.loop-opcode.invariant in
    let stack = last_stack c.code-code.result.now c.loop-opcode.opcode-index c.args.tree.now here.0 c.code-code.ensures (omega (arith, c.loop-opcode-test.false)) here.2 in
    rw (here.1, stack) (omega arith)

pub returns : goal.returns
returns c =
    let here = c.loop-opcode.invariant in
    let stack = last_stack c.code-code.result.now c.loop-opcode.opcode-index c.args.tree.now here.0 c.code-code.ensures (omega (arith, c.loop-opcode-test.false)) here.2 in
    let texts : tree_text c.args.tree.now ∷ [] ≡ c.loop-opcode.texts = sym (rw stack at here.1) in
    only_last c.last_text.new.texts c.last_text.result (tree_text c.args.tree.now) (texts ∙ c.last_text.ensures)
