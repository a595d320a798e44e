use Rattle.asm_text.proofs.WordLaws.{hexadecimal_found}
use Rattle.asm_text.proofs.word.hexadecimal_word.Goals as goal

pub returns : goal.returns
returns c = hexadecimal_found c.args.word.now c.hexadecimal_of.result c.hexadecimal_of.ensures
