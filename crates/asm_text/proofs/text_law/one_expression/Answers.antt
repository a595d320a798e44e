use Rattle.asm_text.proofs.OneText.{same_expression}
use Rattle.asm_text.proofs.text_law.one_expression.Goals as goal

pub returns : goal.returns
returns c = same_expression
