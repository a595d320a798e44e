-- A text is one trace or has one first bad line.
use Rattle.std.proofs.Common.{◌≡◌, ◌++◌, ℕ, List, [], ◌∷◌, refl, sym, ap, ◌∙◌, flat_map, length, append-nil, append_assoc, arith}
use Rattle.std.specs.List.{AllByRecursion}
use Rattle.boot_io.specs.Line.{spaced}
use Rattle.boot_model.specs.declared.line.Line.{Line}
use Rattle.boot_model.specs.Text.{keyword, words, line_text, text_of}
use Rattle.trace_reader.specs.Readable.{IsReadable}
use Rattle.trace_reader.specs.Trace.{IsTrace, IsBadLine, BeginsWithLine}
use Rattle.trace_reader.proofs.{Splits.behind_is, Splits.tail_of, LinesOne.line_one}
use Rattle.line_words.proofs.LineFeeds.{same_line}
use Rattle.trace_reader.proofs.LineBodies.{body_lacks, line_then, no_feed_no_line}

abbrev body : Line → List ℕ
body line = keyword line ++ flat_map spaced (words line)

pub text_one : (a b : Line) → IsReadable a → IsReadable b → line_text a ≡ line_text b → a ≡ b
text_one a b fits fit is = line_one a b fits fit (same_line (body a) (body b) [] [] (body_lacks a fits) (body_lacks b fit) is)

nothing_begins : BeginsWithLine [] → ⊥
nothing_begins there = no_feed_no_line [] refl there

-- what follows the first line
same_rest : (a b : Line) (rest others : List ℕ) → a ≡ b → body a ++ 10 ∷ rest ≡ body b ++ 10 ∷ others → rest ≡ others
same_rest a b rest others same is =
    tail_of 10 rest others (behind_is (body a ++ 10 ∷ rest) (body a) (10 ∷ rest) (10 ∷ others) refl (is ∙ ap (λ line. body line ++ 10 ∷ others) (sym same)))

-- lines and a rest that goes on with none are of one text only once
one_way : (a b : List Line) (r s : List ℕ) → AllByRecursion IsReadable a → AllByRecursion IsReadable b → text_of a ++ r ≡ text_of b ++ s
    → (BeginsWithLine r → ⊥) → (BeginsWithLine s → ⊥) → (a ≡ b) × (r ≡ s)
one_way [] [] r s fits fit is none never = (refl, is)
one_way [] (m ∷ b) r s fits fit is none never = absurd (none (m, text_of b ++ s, fit.0, is ∙ append_assoc (line_text m) (text_of b) s))
one_way (l ∷ a) [] r s fits fit is none never = absurd (never (l, text_of a ++ r, fits.0, sym is ∙ append_assoc (line_text l) (text_of a) r))
one_way (l ∷ a) (m ∷ b) r s fits fit is none never =
    let x = text_of a ++ r in let y = text_of b ++ s in
    let text : body l ++ 10 ∷ x ≡ body m ++ 10 ∷ y =
    sym (line_then l x) ∙ sym (append_assoc (line_text l) (text_of a) r) ∙ is ∙ append_assoc (line_text m) (text_of b) s ∙ line_then m y in
    let line : l ≡ m = line_one l m fits.0 fit.0 (same_line (body l) (body m) x y (body_lacks l fits.0) (body_lacks m fit.0) text) in
    let rest = one_way a b r s fits.1 fit.1 (same_rest l m x y line text) none never in
    (rw (line, rest.0) refl, rest.1)

pub one_trace : (text : List ℕ) (a b : List Line) → IsTrace text a → IsTrace text b → a ≡ b
one_trace text a b x y = (one_way a b [] [] x.1 y.1 (append-nil (text_of a) ∙ sym x.0 ∙ y.0 ∙ sym (append-nil (text_of b))) nothing_begins nothing_begins).0

pub one_bad_line : (text : List ℕ) (m n : ℕ) → IsBadLine text m → IsBadLine text n → m ≡ n
one_bad_line text m n x y =
    let same = (one_way x.0 y.0 x.1 y.1 x.3 y.3 (sym x.2 ∙ y.2) x.6 y.6).0 in
    omega (arith, x.4, y.4, ap length same)

pub trace_or_bad : (text : List ℕ) (lines : List Line) (n : ℕ) → IsTrace text lines → IsBadLine text n → ⊥
trace_or_bad text lines n x y =
    let rest = (one_way lines y.0 [] y.1 x.1 y.3 (append-nil (text_of lines) ∙ sym x.0 ∙ y.2) nothing_begins y.6).1 in
    absurd (omega (arith, ap length rest, y.5))
