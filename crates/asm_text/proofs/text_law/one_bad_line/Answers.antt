use Rattle.asm_text.specs.{ReadDepex.IsDepexText, ReadScript.IsScriptText}
use Rattle.asm_text.proofs.OneBadLine.{one_bad_line}
use Rattle.asm_text.proofs.text_law.one_bad_line.Goals as goal

pub returns-clause-expressions : goal.returns-clause-expressions
returns-clause-expressions c = one_bad_line IsDepexText

pub returns-clause-scripts : goal.returns-clause-scripts
returns-clause-scripts c = one_bad_line IsScriptText
