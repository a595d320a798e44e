-- A text has one bad line.
use Rattle.std.proofs.Common.{◌≡◌, ℕ, ◌<◌, List, [], ◌∷◌, ◌++◌, length, flat_map, refl, sym, ap, subst, ◌∙◌, append_assoc, arith, inl, inr}
use Rattle.std.specs.List.{AllByRecursion}
use Rattle.std.proofs.lemmas.Bool.{cases_lt}
use Rattle.line_words.specs.PrintedWords.{Lacks}
use Rattle.line_words.proofs.LineFeeds.{same_line, same_rest}
use Rattle.asm_text.specs.{BadLine.IsBadLine, ScriptText.line}
use Rattle.asm_text.proofs.{LineFeeds.line_first, ScriptLines.flat_both}

-- more lines at the front of a text are the fewer ones, and a next one
pub record GoesFurther (fewer more : List (List ℕ)) (rest behind : List ℕ) : Type 0 where
  pub next : List ℕ
  pub others : List (List ℕ)
  pub lacks : Lacks 10 next
  pub lines : more ≡ fewer ++ next ∷ others
  pub here : rest ≡ line next ++ (flat_map line others ++ behind)

goes_further : (fewer more : List (List ℕ)) (rest behind : List ℕ) → AllByRecursion (Lacks 10) fewer → AllByRecursion (Lacks 10) more → flat_map line fewer ++ rest ≡ flat_map line more ++ behind
    → length fewer < length more → GoesFurther fewer more rest behind
goes_further fewer [] rest behind are too is less = absurd (omega arith)
goes_further [] (next ∷ more) rest behind are too is less =
    let first : (line next ++ flat_map line more) ++ behind ≡ line next ++ (flat_map line more ++ behind) = append_assoc (line next) (flat_map line more) behind in
    record { next = next; others = more; lacks = too.0; lines = refl; here = is ∙ first }
goes_further (first ∷ fewer) (other ∷ more) rest behind are too is less =
    let a = flat_map line fewer ++ rest in
    let b = flat_map line more ++ behind in
    let whole : first ++ 10 ∷ a ≡ other ++ 10 ∷ b = sym (line_first first fewer rest) ∙ is ∙ line_first other more behind in
    let same = same_line first other a b are.0 too.0 whole in
    let on = goes_further fewer more rest behind are.1 too.1 (same_rest first other a b are.0 too.0 whole) (omega arith) in
    record { next = on.next; others = on.others; lacks = on.lacks; lines = ap (λ l. l ∷ more) (sym same) ∙ ap (λ ls. first ∷ ls) on.lines; here = on.here }

-- the lines before a later one begin no text
not_later : (Is : List ℕ → Type 0) (text : List ℕ) (m n : ℕ) (a : IsBadLine Is text m) (b : IsBadLine Is text n) → length a.lines < length b.lines → ⊥
not_later Is text m n a b less =
    let on = goes_further a.lines b.lines a.rest b.rest a.are b.are (sym a.here ∙ b.here) less in
    let more = b.begins.0 in
    let text_is : flat_map line b.lines ++ more ≡ flat_map line a.lines ++ (line on.next ++ (flat_map line on.others ++ more)) =
    ap (λ ls. flat_map line ls ++ more) on.lines ∙ ap (λ t. t ++ more) (flat_both line a.lines (on.next ∷ on.others))
    ∙ append_assoc (flat_map line a.lines) (line on.next ++ flat_map line on.others) more ∙ ap (λ t. flat_map line a.lines ++ t) (append_assoc (line on.next) (flat_map line on.others) more) in
    a.stops on.next (flat_map line on.others ++ b.rest) on.lacks on.here (flat_map line on.others ++ more) (subst Is text_is b.begins.1)

pub one_bad_line : (Is : List ℕ → Type 0) (text : List ℕ) (m n : ℕ) → IsBadLine Is text m → IsBadLine Is text n → m ≡ n
one_bad_line Is text m n a b =
    elim (cases_lt (length a.lines) (length b.lines)) [
      | inl less ↦ absurd (not_later Is text m n a b less)
      | inr other ↦ elim (cases_lt (length b.lines) (length a.lines)) [ inl less ↦ absurd (not_later Is text n m b a less) | inr same ↦ omega (arith, a.before, b.before) ]
    ]
