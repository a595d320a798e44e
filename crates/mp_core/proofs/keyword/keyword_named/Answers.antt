use Rattle.std.proofs.Common.{◌≡◌, ◌-◌, ◌≤◌, Bool, true, false, List, [], ◌∷◌, length, take, drop, get_or, Some, refl, sym, ap, ◌∙◌, arith, find, if◌then◌else◌, bytes_eq}
use Rattle.std.proofs.lemmas.List.{take_rest}
use Rattle.mp_core.specs.{declared.keyword.Keyword.Keyword, LineText.keyword_text}
use Rattle.mp_core.proofs.keyword.keyword_named.Goals as goal

first : (f : Keyword → Bool) (rest : List Keyword) (d : Keyword) (b : Bool) → 1 ≤ length rest → f (get_or rest 0 d) ≡ b
    → find f rest ≡ (if b then Some (get_or rest 0 d) else find f (take (length rest - 1) (drop 1 rest)))
first f [] d b some is = absurd (omega (arith, some))
first f (x ∷ rest) d b some is = rw (take_rest (x ∷ rest) 1, is) refl

pub returns-then-eq : goal.returns-then-eq
returns-then-eq c =
    sym (c.keywords.invariant ∙ first (λ k. bytes_eq c.args.word.now (keyword_text k)) c.keywords.rest.now _ true c.in-len1-up.len_at_least
    (ap (bytes_eq c.args.word.now) (sym c.keyword_text.ensures) ∙ sym c.eq.ensures ∙ c.if-eq.true))

pub keywords-preserved : goal.keywords-preserved
keywords-preserved c =
    c.keywords.invariant ∙ first (λ k. bytes_eq c.args.word.now (keyword_text k)) c.keywords.rest.now _ false c.in-len1-up.len_at_least
    (ap (bytes_eq c.args.word.now) (sym c.keyword_text.ensures) ∙ sym c.eq.ensures ∙ c.if-eq.false)
