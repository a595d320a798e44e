use Rattle.std.proofs.Common.{◌≡◌, ℕ, List, Option, Some, None, sym, ap, ◌∙◌, option_map}
use Rattle.asm_text.specs.{declared.token.Token.Token, declared.token.Token.TheVariants.Waits, declared.token.Token.TheVariants.Is}
use Rattle.asm_text.specs.declared.token.Waiting.TheVariants.{Negation, First}
use Rattle.depex_code.specs.declared.opcode.Opcode.TheVariants as opcode
use Rattle.asm_text.specs.Walk.{with_token, token_at}
use Rattle.asm_text.proofs.token.token_at.Goals as goal

-- a token that stands there, and one that does not
here : (token : Token) (found : Option (List ℕ)) (rest : List ℕ) (others : Option (Token × List ℕ)) → Some rest ≡ found
    → with_token token found others ≡ Some (token, rest)
here token found rest others is = ap (λ o. with_token token o others) (sym is)

past : (token : Token) (found : Option (List ℕ)) (others : Option (Token × List ℕ)) → None ≡ found → with_token token found others ≡ others
past token found others none = ap (λ o. with_token token o others) (sym none)

pub returns-in-Some-behind-clause-found : goal.returns-in-Some-behind-clause-found
unfolding token_at
returns-in-Some-behind-clause-found c =
    sym (past (Waits First) _ _ c.in_default.ensures.found ∙ here (Waits Negation) _ _ _ c.in-Some-behind.ensures.found)

pub returns-in-Some-behind-2-clause-found : goal.returns-in-Some-behind-2-clause-found
unfolding token_at
returns-in-Some-behind-2-clause-found c =
    sym (past (Waits First) _ _ c.in_default.ensures.found ∙ past (Waits Negation) _ _ c.in_default-behind.ensures.found
    ∙ here (Is opcode.True) _ _ _ c.in-Some-behind-2.ensures.found)

pub returns-in-Some-behind-3-clause-found : goal.returns-in-Some-behind-3-clause-found
unfolding token_at
returns-in-Some-behind-3-clause-found c =
    sym (past (Waits First) _ _ c.in_default.ensures.found ∙ past (Waits Negation) _ _ c.in_default-behind.ensures.found
    ∙ past (Is opcode.True) _ _ c.in_default-behind-2.ensures.found ∙ here (Is opcode.False) _ _ _ c.in-Some-behind-3.ensures.found)

pub returns-in-Some-guid_front-clause-found : goal.returns-in-Some-guid_front-clause-found
unfolding token_at
returns-in-Some-guid_front-clause-found c =
    sym (past (Waits First) _ _ c.in_default.ensures.found ∙ past (Waits Negation) _ _ c.in_default-behind.ensures.found
    ∙ past (Is opcode.True) _ _ c.in_default-behind-2.ensures.found ∙ past (Is opcode.False) _ _ c.in_default-behind-3.ensures.found
    ∙ ap (option_map (λ x. (Is (opcode.Push x.0), x.1))) (sym c.in-Some-guid_front.ensures.found))

pub returns-clause-found : goal.returns-clause-found
unfolding token_at
returns-clause-found c =
    sym (past (Waits First) _ _ c.in_default.ensures.found ∙ past (Waits Negation) _ _ c.in_default-behind.ensures.found
    ∙ past (Is opcode.True) _ _ c.in_default-behind-2.ensures.found ∙ past (Is opcode.False) _ _ c.in_default-behind-3.ensures.found
    ∙ ap (option_map (λ x. (Is (opcode.Push x.0), x.1))) (sym c.in_default-guid_front.ensures.found))
