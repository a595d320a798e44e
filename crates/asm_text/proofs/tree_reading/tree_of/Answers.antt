use Rattle.asm_text.proofs.TreeEnds.{tree_found}
use Rattle.asm_text.proofs.tree_reading.tree_of.Goals as goal

pub returns-in-Some : goal.returns-in-Some
returns-in-Some c = tree_found c.args.text.now c.in-Some.code c.from_code.result (rw c.in-Some.is at c.in_ok-code.ensures) c.from_code.ensures.some c.from_code.ensures.none
