use Rattle.std.proofs.Common.{◌≡◌, ◌<◌, false, true, length, get_or, sym, ◌∙◌, arith}
use Rattle.source_words.specs.Words.{is_blank, is_bracket, is_comment}
use Rattle.source_words.proofs.FirstWord.{bracket_first, inner_word}
use Rattle.source_words.proofs.word.next_word.Goals as goal
use Rattle.source_words.proofs.word.next_word.Goals.{then-is_bracket, else-is_bracket}

pub returns-after-is_bracket-clause-found : goal.returns-after-is_bracket-clause-found
returns-after-is_bracket-clause-found c =
    let line = c.behind_blanks-rest.result.now in
    let some : 0 < length line = omega (arith, c.in-len1-up.len_at_least) in
    let blank : is_blank (get_or line 0 0) ≡ false = c.behind_blanks-rest.ensures.trimmed some in
    let plain : is_comment (get_or line 0 0) ≡ false = sym c.is_comment.ensures ∙ c.if-is_comment.false in
    elim c.if-is_bracket.branch [
      | then-is_bracket w ↦
          let bracket : is_bracket (get_or line 0 0) ≡ true = sym c.is_bracket.ensures ∙ w.if-is_bracket.true in
          rw (sym c.behind_blanks-rest.ensures.same, c.split_at.ensures.front, c.split_at.ensures.back, w.len-is) (bracket_first line some blank plain bracket)
      | else-is_bracket w ↦
          let bracket : is_bracket (get_or line 0 0) ≡ false = sym c.is_bracket.ensures ∙ w.if-is_bracket.false in
          let inner = w.inner_len-len in
          rw (sym c.behind_blanks-rest.ensures.same, c.split_at.ensures.front, c.split_at.ensures.back, w.len-is)
          (inner_word line inner.result some blank plain bracket inner.ensures.within inner.ensures.inner inner.ensures.end)
    ]
