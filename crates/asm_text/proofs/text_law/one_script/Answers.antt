use Rattle.asm_text.proofs.OneScript.{same_script}
use Rattle.asm_text.proofs.text_law.one_script.Goals as goal

pub returns : goal.returns
returns c = same_script
