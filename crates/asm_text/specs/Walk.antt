-- Going through the text of a tree from left to right: what waits for an operand is on a stack, the innermost last, and an opcode is written after its
-- operands.
use Rattle.std.specs.Prelude.{◌≡◌, ℕ, Bool, true, false, List, [], ◌∷◌, ◌++◌, codes, Option, Some, None, option_map}
use Rattle.std.specs.Borrow.{Bor}
use Rattle.depex_code.specs.declared.opcode.Opcode.{Opcode}
use Rattle.depex_code.specs.declared.opcode.Opcode.TheVariants as opcode
use Rattle.asm_text.specs.{declared.token.Waiting.Waiting, declared.token.Token.Token}
use Rattle.asm_text.specs.declared.token.Waiting.TheVariants.{Negation, First, Conjunction, Disjunction}
use Rattle.asm_text.specs.{declared.token.Token.TheVariants.Waits, declared.token.Token.TheVariants.Is, Front.behind, Front.guid_front}

-- a token and what follows it, or the other result if the token is not there
abbrev pub with_token : {A : Type 0} → A → Option (List ℕ) → Option (A × List ℕ) → Option (A × List ℕ)
with_token token (Some rest) others = Some (token, rest)
with_token token None others = others

-- the token at the beginning of an operand, and what follows it
unfoldable pub token_at : List ℕ → Option (Token × List ℕ)
token_at text =
    with_token (Waits First) (behind (codes "(") text)
    (with_token (Waits Negation) (behind (codes "not ") text)
    (with_token (Is opcode.True) (behind (codes "true") text)
    (with_token (Is opcode.False) (behind (codes "false") text)
    (option_map (λ x. (Is (opcode.Push x.0), x.1)) (guid_front text)))))

-- the operator after a first operand, and what follows it
unfoldable pub operator_at : List ℕ → Option (Waiting × List ℕ)
operator_at text = with_token Conjunction (behind (codes " and ") text) (with_token Disjunction (behind (codes " or ") text) None)

-- a place in the text of a tree
pub record Place : Type 0 where
  pub rest : List ℕ  -- the text from there on
  pub ended : Bool  -- whether an operand ends there, and none begins
  pub waiting : List Waiting
  pub code : List Opcode  -- what was written

-- all but the last, and the last
abbrev pub with_first : {A : Type 0} → A → Option (List A × A) → Option (List A × A)
with_first first None = Some ([], first)
with_first first (Some parts) = Some (first ∷ parts.0, parts.1)

abbrev pub split_last : {A : Type 0} → List A → Option (List A × A)
split_last [] = None
split_last (first ∷ others) = with_first first (split_last others)

-- the place after a token
abbrev pub turned : List Waiting → List Opcode → Option (Token × List ℕ) → Option Place
turned waiting code None = None
turned waiting code (Some (Waits what, rest)) = Some (record { rest = rest; ended = false; waiting = waiting ++ what ∷ []; code = code })
turned waiting code (Some (Is opcode, rest)) = Some (record { rest = rest; ended = true; waiting = waiting; code = code ++ opcode ∷ [] })

-- the place after an operator
abbrev pub opened : List Waiting → List Opcode → Option (Waiting × List ℕ) → Option Place
opened waiting code None = None
opened waiting code (Some (what, rest)) = Some (record { rest = rest; ended = false; waiting = waiting ++ what ∷ []; code = code })

-- the place after a closing bracket
abbrev pub closed : List Waiting → List Opcode → Opcode → Option (List ℕ) → Option Place
closed waiting code opcode None = None
closed waiting code opcode (Some rest) = Some (record { rest = rest; ended = true; waiting = waiting; code = code ++ opcode ∷ [] })

-- what follows the end of an operand, which depends on what waits for it
abbrev pub resumed : List ℕ → List Opcode → Option (List Waiting × Waiting) → Option Place
resumed text code None = None
resumed text code (Some (waiting, Negation)) = Some (record { rest = text; ended = true; waiting = waiting; code = code ++ opcode.Not ∷ [] })
resumed text code (Some (waiting, First)) = opened waiting code (operator_at text)
resumed text code (Some (waiting, Conjunction)) = closed waiting code opcode.And (behind (codes ")") text)
resumed text code (Some (waiting, Disjunction)) = closed waiting code opcode.Or (behind (codes ")") text)

-- the next place
abbrev pub next_place : List ℕ → Bool → List Waiting → List Opcode → Option Place
next_place text true waiting code = resumed text code (split_last waiting)
next_place text false waiting code = turned waiting code (token_at text)

abbrev pub step : Place → Option Place
step place = next_place place.rest place.ended place.waiting place.code

-- what was found is the next place, with this stack and these opcodes
abbrev pub Goes : Option Place → List Waiting → List Opcode → Option (Bor (List ℕ) × Bool) → Type 0
Goes next waiting code None = next ≡ None
Goes next waiting code (Some (rest, ended)) = next ≡ Some (record { rest = rest.now; ended = ended; waiting = waiting; code = code })
