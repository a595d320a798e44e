use Rattle.source_words.proofs.ValueWords.{decimal_read, hexadecimal_read, guid_read}
use Rattle.source_words.proofs.again.law.values.Goals as goal

pub returns-clause-decimal : goal.returns-clause-decimal
returns-clause-decimal c = decimal_read

pub returns-clause-hexadecimal : goal.returns-clause-hexadecimal
returns-clause-hexadecimal c = hexadecimal_read

pub returns-clause-guid : goal.returns-clause-guid
returns-clause-guid c = guid_read
