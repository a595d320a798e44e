-- Texts of lines.
use Rattle.std.proofs.Common.{◌≡◌, ◌++◌, ℕ, List, [], ◌∷◌, refl, sym, ap, ◌∙◌, arith, length, subst, flat_map, append_assoc, length-append, append-nil}
use Rattle.std.specs.List.{AllByRecursion}
use Rattle.asm_text.specs.ScriptText.{line}
use Rattle.line_words.specs.PrintedWords.{Lacks}
use Rattle.line_words.proofs.LineFeeds.{feed_there, same_line, same_rest}

pub lined : (next after : List ℕ) → line next ++ after ≡ next ++ 10 ∷ after
lined next after = append_assoc next (10 ∷ []) after

pub line_first : (first : List ℕ) (lines : List (List ℕ)) (rest : List ℕ) → (line first ++ flat_map line lines) ++ rest ≡ first ++ 10 ∷ (flat_map line lines ++ rest)
line_first first lines rest = append_assoc (line first) (flat_map line lines) rest ∙ lined first (flat_map line lines ++ rest)

-- lines that begin a text of lines begin those lines
pub cut_lines : (lines others : List (List ℕ)) (rest : List ℕ) → AllByRecursion (Lacks 10) lines → AllByRecursion (Lacks 10) others → flat_map line lines ++ rest ≡ flat_map line others
    → (more : List (List ℕ)) × (others ≡ lines ++ more) × (rest ≡ flat_map line more)
cut_lines [] others rest are too is = (others, refl, is)
cut_lines (first ∷ lines) [] rest are too is = absurd (omega (arith, ap length is, length-append (line first ++ flat_map line lines) rest, length-append (line first) (flat_map line lines), length-append first (10 ∷ [])))
cut_lines (first ∷ lines) (other ∷ others) rest are too is =
    let whole : first ++ 10 ∷ (flat_map line lines ++ rest) ≡ other ++ 10 ∷ flat_map line others =
    sym (line_first first lines rest) ∙ is ∙ lined other (flat_map line others) in
    let same = same_line first other (flat_map line lines ++ rest) (flat_map line others) are.0 too.0 whole in
    let next = cut_lines lines others rest are.1 too.1 (same_rest first other (flat_map line lines ++ rest) (flat_map line others) are.0 too.0 whole) in
    (next.0, ap (λ l. l ∷ others) (sym same) ∙ ap (λ ls. first ∷ ls) next.1, next.2)

-- the next line of a text of lines
pub next_line : (next more : List ℕ) (lines : List (List ℕ)) → Lacks 10 next → AllByRecursion (Lacks 10) lines → line next ++ more ≡ flat_map line lines → (others : List (List ℕ)) × (lines ≡ next ∷ others)
next_line next more lines lacks are is =
    let cut = cut_lines (next ∷ []) lines more (lacks, tt) are (ap (λ t. t ++ more) (append-nil (line next)) ∙ is) in
    (cut.0, cut.1)

-- no line is there without a line feed
pub no_line : (rest : List ℕ) (lines : List (List ℕ)) → Lacks 10 rest → rest ≡ flat_map line lines → rest ≡ []
no_line rest [] lacks is = is
no_line rest (first ∷ lines) lacks is = absurd (feed_there first (flat_map line lines) (subst (Lacks 10) (is ∙ lined first (flat_map line lines)) lacks))
