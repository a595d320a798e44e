-- The words of registers and statuses are plain.
use Rattle.std.proofs.Common.{ℕ, ◌<◌, refl, arith}
use Rattle.pi_base.specs.{declared.word.Word.Word, declared.word.Word.TheVariants.Success, WordText.word_text}
use Rattle.line_words.specs.PrintedWords.{IsPlain}
use Rattle.line_words.proofs.PlainWords.{decimal_plain}
use Rattle.asm_text.specs.Numerals.{register}

pub register_plain : (r : ℕ) → r < 16 → IsPlain (register r)
register_plain r small = decimal_plain r (omega arith)

pub status_plain : (status : Word) → IsPlain (word_text status)
unfolding word_text
status_plain Success = refl
status_plain _ = refl
