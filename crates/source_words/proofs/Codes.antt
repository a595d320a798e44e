-- The opcodes that a closing bracket writes.
use Rattle.std.proofs.Common.{◌≡◌, List, ◌∷◌, ◌++◌, sym, append_assoc}
use Rattle.depex_code.specs.declared.opcode.Opcode.{Opcode}
use Rattle.source_words.specs.{declared.depex.stack.Waiting.Waiting, declared.depex.walk.Stage.TheVariants.Ended}
use Rattle.source_words.specs.{declared.depex.token.Token.Token, declared.depex.token.Token.TheVariants.Close}
use Rattle.source_words.specs.Emission.{emitted, operators, below_bracket}

pub written : (old new : List Opcode) (waiting below : List Waiting) (rest : List Token) → new ≡ old ++ operators waiting → below ≡ below_bracket waiting
    → old ++ emitted waiting Ended (Close ∷ rest) ≡ new ++ emitted below Ended rest
written old new waiting below rest code stack =
    rw (code, stack) (sym (append_assoc old (operators waiting) (emitted (below_bracket waiting) Ended rest)))
