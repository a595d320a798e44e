use Rattle.asm_text.proofs.Guids.{guid_found}
use Rattle.asm_text.proofs.front.guid_word.Goals as goal

pub returns : goal.returns
returns c = guid_found c.args.word.now c.guid_of.result c.guid_of.ensures
