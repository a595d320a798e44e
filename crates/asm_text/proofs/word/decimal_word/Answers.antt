use Rattle.std.proofs.Common.{arith}
use Rattle.asm_text.proofs.WordLaws.{number_found}
use Rattle.asm_text.proofs.word.decimal_word.Goals as goal

pub returns : goal.returns
returns c = number_found 10 c.args.word.now c.decimal_of.result (omega arith) (omega arith) c.decimal_of.ensures
