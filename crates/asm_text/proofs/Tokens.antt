-- The tokens of a tree's text, both ways.
use Rattle.std.proofs.Common.{◌≡◌, ℕ, List, ◌++◌, Option, Some, None, refl, subst, arith, codes}
use Rattle.std.proofs.{lemmas.Option.same_Some, lemmas.Bool.false≢true}
use Rattle.pi_base.specs.{declared.guid.Guid.Guid, WordText.guid_text}
use Rattle.depex_code.specs.declared.opcode.Opcode.TheVariants as opcode
use Rattle.asm_text.specs.{declared.token.Waiting.Waiting, declared.token.Token.Token}
use Rattle.asm_text.specs.declared.token.Waiting.TheVariants.{Negation, First, Conjunction, Disjunction}
use Rattle.asm_text.specs.{declared.token.Token.TheVariants.Waits, declared.token.Token.TheVariants.Is, Front.behind, Front.guid_front}
use Rattle.asm_text.specs.Walk.{with_token, token_at, operator_at}
use Rattle.line_words.specs.PrintedWords.{IsGuid}
use Rattle.asm_text.proofs.Fronts.{behind_is, behind_none}
use Rattle.asm_text.proofs.Guids.{guid_at_front, guid_front_is, guid_front_there, mapped}

-- a token stands at the front, and the rest behind it
abbrev pub TokenIs : List ℕ → Token → List ℕ → Type 0
TokenIs text (Waits First) rest = text ≡ codes "(" ++ rest
TokenIs text (Waits Negation) rest = text ≡ codes "not " ++ rest
TokenIs text (Waits Conjunction) rest = ⊥
TokenIs text (Waits Disjunction) rest = ⊥
TokenIs text (Is opcode.True) rest = text ≡ codes "true" ++ rest
TokenIs text (Is opcode.False) rest = text ≡ codes "false" ++ rest
TokenIs text (Is (opcode.Push guid)) rest = IsGuid guid × (text ≡ guid_text guid ++ rest)
TokenIs text (Is opcode.And) rest = ⊥
TokenIs text (Is opcode.Or) rest = ⊥
TokenIs text (Is opcode.Not) rest = ⊥

abbrev pub OperatorIs : List ℕ → Waiting → List ℕ → Type 0
OperatorIs text Conjunction rest = text ≡ codes " and " ++ rest
OperatorIs text Disjunction rest = text ≡ codes " or " ++ rest
OperatorIs text First rest = ⊥
OperatorIs text Negation rest = ⊥

by_token : {A : Type 0} (P : A → List ℕ → Type 0) (token : A) (o : Option (List ℕ)) (others : Option (A × List ℕ)) (x : A × List ℕ)
    → with_token token o others ≡ Some x → ((rest : List ℕ) → o ≡ Some rest → P token rest) → (others ≡ Some x → P x.0 x.1) → P x.0 x.1
by_token P token (Some rest) others x e here other = subst (λ (y : _ × List ℕ). P y.0 y.1) (same_Some (token, rest) x e) (here rest refl)
by_token P token None others x e here other = other e

pub token_is : (text : List ℕ) (x : Token × List ℕ) → token_at text ≡ Some x → TokenIs text x.0 x.1
unfolding token_at
token_is text x e =
    by_token (TokenIs text) (Waits First) (behind (codes "(") text) _ x e (λ rest. behind_is (codes "(") text rest)
    (λ e. by_token (TokenIs text) (Waits Negation) (behind (codes "not ") text) _ x e (λ rest. behind_is (codes "not ") text rest)
    (λ e. by_token (TokenIs text) (Is opcode.True) (behind (codes "true") text) _ x e (λ rest. behind_is (codes "true") text rest)
    (λ e. by_token (TokenIs text) (Is opcode.False) (behind (codes "false") text) _ x e (λ rest. behind_is (codes "false") text rest)
    (λ e.
    let m = mapped (λ y. (Is (opcode.Push y.0), y.1)) (guid_front text) x e in
    subst (λ (y : Token × List ℕ). TokenIs text y.0 y.1) m.2 (guid_front_is text m.0 m.1)))))

pub operator_is : (text : List ℕ) (x : Waiting × List ℕ) → operator_at text ≡ Some x → OperatorIs text x.0 x.1
unfolding operator_at
operator_is text x e =
    by_token (OperatorIs text) Conjunction (behind (codes " and ") text) _ x e (λ rest. behind_is (codes " and ") text rest)
    (λ e. by_token (OperatorIs text) Disjunction (behind (codes " or ") text) _ x e (λ rest. behind_is (codes " or ") text rest) (λ e. absurd cc))

pub token_first : (rest : List ℕ) → token_at (codes "(" ++ rest) ≡ Some (Waits First, rest)
unfolding token_at
token_first rest = refl

pub token_not : (rest : List ℕ) → token_at (codes "not " ++ rest) ≡ Some (Waits Negation, rest)
unfolding token_at
token_not rest = refl

pub token_true : (rest : List ℕ) → token_at (codes "true" ++ rest) ≡ Some (Is opcode.True, rest)
unfolding token_at
token_true rest = refl

pub token_false : (rest : List ℕ) → token_at (codes "false" ++ rest) ≡ Some (Is opcode.False, rest)
unfolding token_at
token_false rest = refl

pub token_guid : (guid : Guid) (rest : List ℕ) → IsGuid guid → token_at (guid_text guid ++ rest) ≡ Some (Is (opcode.Push guid), rest)
unfolding token_at
token_guid guid rest is =
    let text = guid_text guid ++ rest in
    let a : behind (codes "(") text ≡ None = behind_none (codes "(") text (λ more e. false≢true (guid_at_front guid rest (codes "(" ++ more) 0 (omega arith) e)) in
    let b : behind (codes "not ") text ≡ None = behind_none (codes "not ") text (λ more e. false≢true (guid_at_front guid rest (codes "not " ++ more) 0 (omega arith) e)) in
    let c : behind (codes "true") text ≡ None = behind_none (codes "true") text (λ more e. false≢true (guid_at_front guid rest (codes "true" ++ more) 0 (omega arith) e)) in
    let d : behind (codes "false") text ≡ None = behind_none (codes "false") text (λ more e. false≢true (guid_at_front guid rest (codes "false" ++ more) 2 (omega arith) e)) in
    rw (a, b, c, d, guid_front_there guid rest is) refl

pub operator_and : (rest : List ℕ) → operator_at (codes " and " ++ rest) ≡ Some (Conjunction, rest)
unfolding operator_at
operator_and rest = refl

pub operator_or : (rest : List ℕ) → operator_at (codes " or " ++ rest) ≡ Some (Disjunction, rest)
unfolding operator_at
operator_or rest = refl
