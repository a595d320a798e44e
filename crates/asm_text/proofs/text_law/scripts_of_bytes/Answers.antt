use Rattle.std.proofs.Common.{subst, List, ℕ}
use Rattle.hex.specs.Hex.{IsBytes}
use Rattle.asm_text.proofs.text_law.scripts_of_bytes.Goals as goal

pub returns : goal.returns
returns c = λ bytes script are is. record { grammar = is.grammar; bytes = subst (λ (xs : List ℕ). IsBytes xs) is.spelled are }
