-- Words with which nothing is wrong are those of an expression.
use Rattle.std.proofs.Common.{◌≡◌, inl, inr, ℕ, zero, suc, ◌+◌, ◌<◌, true, List, [], ◌∷◌, ◌++◌, length, None, refl, sym, ap, ◌∙◌, arith, append_assoc}
use Rattle.source_words.specs.declared.depex.walk.Stage.TheVariants.{Due, Ended}
use Rattle.source_words.specs.{declared.depex.token.Operator.Operator, declared.depex.token.Token.Token, Cause.tree_cause, Cause.end_cause}
use Rattle.source_words.specs.declared.depex.token.Token.TheVariants as token
use Rattle.source_words.specs.Written.{Written, Alone, Negated, Bracketed, Joined, is_operand, is_grouped, tokens_of}
use Rattle.source_words.specs.Expression.{IsEnd}
use Rattle.source_words.proofs.Writing.{IsClosing}

-- an expression at the front of the words
pub record Front (depth : ℕ) (tokens : List Token) : Type 0 where
  pub written : Written
  pub rest : List Token
  pub grouped : is_grouped written ≡ true
  pub here : tokens ≡ tokens_of written ++ rest
  pub on : tree_cause depth Ended rest ≡ None
  pub shorter : length rest < length tokens

pub record Operand (depth : ℕ) (tokens : List Token) : Type 0 where
  pub front : Front depth tokens
  pub operand : is_operand front.written ≡ true

pub record Whole (depth : ℕ) (tokens : List Token) : Type 0 where
  pub front : Front depth tokens
  pub closing : IsClosing front.rest

-- what is shown for fewer words than so many
abbrev Shown : ℕ → Type 0
Shown n = ((depth : ℕ) (tokens : List Token) → length tokens < n → tree_cause depth Due tokens ≡ None → Operand depth tokens)
    × ((depth : ℕ) (tokens : List Token) → length tokens < n → tree_cause depth Due tokens ≡ None → Whole depth tokens)

closed_by : (depth : ℕ) (rest : List Token) → IsClosing rest → tree_cause (suc depth) Ended rest ≡ None → (more : List Token) × (rest ≡ token.Close ∷ more) × (tree_cause depth Ended more ≡ None)
closed_by depth [] closing on = absurd cc
closed_by depth (token.Leaf one ∷ rest) closing on = absurd cc
closed_by depth (token.Not ∷ rest) closing on = absurd cc
closed_by depth (token.Open ∷ rest) closing on = absurd cc
closed_by depth (token.Close ∷ rest) closing on = (rest, refl, on)
closed_by depth (token.Operator operator ∷ rest) closing on = absurd closing
closed_by depth (token.First first ∷ rest) closing on = absurd cc
closed_by depth (token.End ∷ rest) closing on = absurd cc
closed_by depth (token.Other ∷ rest) closing on = absurd cc

-- where a bracket is open, the closing one follows
closed : (depth : ℕ) (rest : List Token) → IsClosing rest → tree_cause (depth + 1) Ended rest ≡ None → (more : List Token) × (rest ≡ token.Close ∷ more) × (tree_cause depth Ended more ≡ None)
closed depth rest closing on = let e : depth + 1 ≡ suc depth = omega arith in closed_by depth rest closing (ap (λ d. tree_cause d Ended rest) (sym e) ∙ on)

negated : (depth : ℕ) (tokens : List Token) → Operand depth tokens → Operand depth (token.Not ∷ tokens)
negated depth tokens one = record {
  front = record {
    written = Negated one.front.written;
    rest = one.front.rest;
    grouped = rw (one.operand, one.front.grouped) refl;
    here = ap (λ t. token.Not ∷ t) one.front.here;
    on = one.front.on;
    shorter = omega (arith, one.front.shorter);
  };
  operand = refl;
}

bracketed : (depth : ℕ) (tokens : List Token) → Whole (depth + 1) tokens → Operand depth (token.Open ∷ tokens)
bracketed depth tokens inner =
    let close = closed depth inner.front.rest inner.closing inner.front.on in
    let w = inner.front.written in
    record {
      front = record {
        written = Bracketed w;
        rest = close.0;
        grouped = inner.front.grouped;
        here = ap (λ t. token.Open ∷ t) (inner.front.here ∙ ap (λ t. tokens_of w ++ t) close.1 ∙ sym (append_assoc (tokens_of w) (token.Close ∷ []) close.0));
        on = close.2;
        shorter = omega (arith, inner.front.shorter, ap length close.1);
      };
      operand = refl;
    }

operand_of : (n : ℕ) → Shown n → (depth : ℕ) (tokens : List Token) → length tokens < suc n → tree_cause depth Due tokens ≡ None → Operand depth tokens
operand_of n shown depth [] few none = absurd cc
operand_of n shown depth (token.Leaf one ∷ rest) few none = record {
  front = record { written = Alone one; rest = rest; grouped = refl; here = refl; on = none; shorter = omega arith };
  operand = refl;
}
operand_of n shown depth (token.Not ∷ rest) few none = negated depth rest (shown.0 depth rest (omega arith) none)
operand_of n shown depth (token.Open ∷ rest) few none = bracketed depth rest (shown.1 (depth + 1) rest (omega arith) none)
operand_of n shown depth (token.Close ∷ rest) few none = absurd cc
operand_of n shown depth (token.Operator operator ∷ rest) few none = absurd cc
operand_of n shown depth (token.First first ∷ rest) few none = absurd cc
operand_of n shown depth (token.End ∷ rest) few none = absurd cc
operand_of n shown depth (token.Other ∷ rest) few none = absurd cc

-- an operand with which the words go on
alone : (depth : ℕ) (tokens : List Token) (one : Operand depth tokens) → IsClosing one.front.rest → Whole depth tokens
alone depth tokens one closing = record { front = one.front; closing = closing }

joined : (depth : ℕ) (tokens : List Token) (one : Operand depth tokens) (operator : Operator) (more : List Token) → one.front.rest ≡ token.Operator operator ∷ more → Whole depth more → Whole depth tokens
joined depth tokens one operator more next others =
    let a = one.front.written in
    let b = others.front.written in
    record {
      front = record {
        written = Joined operator a b;
        rest = others.front.rest;
        grouped = rw (one.operand, one.front.grouped, others.front.grouped) refl;
        here = one.front.here ∙ ap (λ t. tokens_of a ++ t) (next ∙ ap (λ t. token.Operator operator ∷ t) others.front.here)
            ∙ sym (append_assoc (tokens_of a) (token.Operator operator ∷ tokens_of b) others.front.rest);
        on = others.front.on;
        shorter = omega (arith, one.front.shorter, others.front.shorter, ap length next);
      };
      closing = others.closing;
    }

whole_by : (n : ℕ) → Shown n → (depth : ℕ) (tokens : List Token) → length tokens < suc n → (one : Operand depth tokens) (rest : List Token) → one.front.rest ≡ rest → tree_cause depth Ended rest ≡ None → Whole depth tokens
whole_by n shown depth tokens few one [] is on = alone depth tokens one (rw is tt)
whole_by n shown depth tokens few one (token.Leaf leaf ∷ rest) is on = alone depth tokens one (rw is tt)
whole_by n shown depth tokens few one (token.Not ∷ rest) is on = alone depth tokens one (rw is tt)
whole_by n shown depth tokens few one (token.Open ∷ rest) is on = alone depth tokens one (rw is tt)
whole_by n shown depth tokens few one (token.Close ∷ rest) is on = alone depth tokens one (rw is tt)
whole_by n shown depth tokens few one (token.Operator operator ∷ rest) is on =
    joined depth tokens one operator rest is (shown.1 depth rest (omega (arith, one.front.shorter, ap length is)) on)
whole_by n shown depth tokens few one (token.First first ∷ rest) is on = alone depth tokens one (rw is tt)
whole_by n shown depth tokens few one (token.End ∷ rest) is on = alone depth tokens one (rw is tt)
whole_by n shown depth tokens few one (token.Other ∷ rest) is on = alone depth tokens one (rw is tt)

shown_for : (n : ℕ) → Shown n
shown_for zero = ((λ depth tokens few none. absurd (omega arith)), (λ depth tokens few none. absurd (omega arith)))
shown_for (suc n) =
    let shown = shown_for n in
    (operand_of n shown, (λ depth tokens few none. let one = operand_of n shown depth tokens few none in whole_by n shown depth tokens few one one.front.rest refl one.front.on))

-- END, or nothing, stands behind the whole
ends : (rest : List Token) → IsClosing rest → tree_cause zero Ended rest ≡ None → IsEnd rest
ends [] closing on = inl refl
ends (token.Leaf one ∷ rest) closing on = absurd cc
ends (token.Not ∷ rest) closing on = absurd cc
ends (token.Open ∷ rest) closing on = absurd cc
ends (token.Close ∷ rest) closing on = absurd cc
ends (token.Operator operator ∷ rest) closing on = absurd closing
ends (token.First first ∷ rest) closing on = absurd cc
ends (token.End ∷ []) closing on = inr refl
ends (token.End ∷ (next ∷ rest)) closing on = absurd cc
ends (token.Other ∷ rest) closing on = absurd cc

-- a whole expression, with END or not
pub record Complete (tokens : List Token) : Type 0 where
  pub written : Written
  pub end : List Token
  pub grouped : is_grouped written ≡ true
  pub is_end : IsEnd end
  pub here : tokens ≡ tokens_of written ++ end

pub complete : (tokens : List Token) → tree_cause zero Due tokens ≡ None → Complete tokens
complete tokens none =
    let all = (shown_for (suc (length tokens))).1 zero tokens (omega arith) none in
    record { written = all.front.written; end = all.front.rest; grouped = all.front.grouped; is_end = ends all.front.rest all.closing all.front.on; here = all.front.here }

pub no_end_cause : (rest : List Token) → end_cause rest ≡ None → IsEnd rest
no_end_cause [] none = inl refl
no_end_cause (token.End ∷ []) none = inr refl
no_end_cause (token.End ∷ (next ∷ rest)) none = absurd cc
no_end_cause (token.Leaf one ∷ rest) none = absurd cc
no_end_cause (token.Not ∷ rest) none = absurd cc
no_end_cause (token.Open ∷ rest) none = absurd cc
no_end_cause (token.Close ∷ rest) none = absurd cc
no_end_cause (token.Operator operator ∷ rest) none = absurd cc
no_end_cause (token.First first ∷ rest) none = absurd cc
no_end_cause (token.Other ∷ rest) none = absurd cc

pub end_has_no_cause : (rest : List Token) → IsEnd rest → end_cause rest ≡ None
end_has_no_cause rest (inl e) = rw e refl
end_has_no_cause rest (inr e) = rw e refl
