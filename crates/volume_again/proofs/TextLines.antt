-- The lines of a text that is put together of lines.
use Rattle.std.proofs.Common.{◌≡◌, ℕ, ◌+◌, ◌-◌, Bool, true, false, List, [], ◌∷◌, ◌++◌, length, map, refl, sym, ap, ◌∙◌, arith, append_assoc, slice_index, nat_lt, not, filter, ◌==◌, append-nil}
use Rattle.std.specs.List.{list_all, slice_split}
use Rattle.std.specs.Str.Lines.{lines_of_parts, strip_carriage_return, lines}
use Rattle.std.proofs.{lemmas.Bool.and_parts, lemmas.Bool.Decides.nat_tests, lemmas.List.Sums.AllPass-from_list_all}
use Rattle.line_words.proofs.LineLemmas.{is_byte, some_part}
use Rattle.asm_text.specs.ScriptText.{line}
use Rattle.volume_text.specs.Text.{is_passed_over, counted, numbered}
use Rattle.source_words.proofs.LineWords.{IsClear}

-- a line that counts: each byte is the space or above it
pub record IsLine (l : List ℕ) : Type 0 where
  pub clear : IsClear l
  pub counts : is_passed_over l ≡ false

no_feed : (byte : ℕ) → nat_lt 31 byte ≡ true → is_byte 10 byte ≡ false
no_feed byte high = grind (arith, nat_tests)

-- the parts between line feeds
first_part : (l rest : List ℕ) → IsClear l → slice_split (is_byte 10) (line l ++ rest) ≡ l ∷ slice_split (is_byte 10) rest
first_part [] rest clear = refl
first_part (byte ∷ l) rest clear =
    let parts = and_parts (nat_lt 31 byte) (list_all (λ b. nat_lt 31 b) l) clear in
    rw (no_feed byte parts.0, first_part l rest parts.1) refl

no_return : (byte : ℕ) → nat_lt 31 byte ≡ true → (byte == 13) ≡ false
no_return byte high = grind (arith, nat_tests)

-- no carriage return is dropped
kept : (l : List ℕ) → IsClear l → strip_carriage_return l ≡ l
kept [] clear = refl
kept (byte ∷ l) clear =
    let last = slice_index (byte ∷ l) (length (byte ∷ l) - 1) in
    let high : nat_lt 31 last ≡ true = AllPass-from_list_all (λ b. nat_lt 31 b) (byte ∷ l) clear (length (byte ∷ l) - 1) 0 (omega arith) in
    rw (no_return last high) refl

pub lines_first : (l rest : List ℕ) → IsClear l → lines (line l ++ rest) ≡ l ∷ lines rest
lines_first l rest clear =
    let more = some_part (is_byte 10) rest in
    ap lines_of_parts (first_part l rest clear ∙ ap (λ ps. l ∷ ps) more.2)
    ∙ ap (λ x. x ∷ lines_of_parts (more.0 ∷ more.1)) (kept l clear) ∙ ap (λ ps. l ∷ lines_of_parts ps) (sym more.2)

-- the lines that count
abbrev pub counts_too : List ℕ → Bool
counts_too l = not (is_passed_over l)

abbrev pub kept_lines : List (List ℕ) → List (List ℕ)
kept_lines ls = filter counts_too ls

counted_by : (number : ℕ) (l : List ℕ) (rest : List (List ℕ)) (test : Bool) → is_passed_over l ≡ test → map (λ one. one.1) (counted (number + 1) rest) ≡ kept_lines rest
    → map (λ one. one.1) (counted number (l ∷ rest)) ≡ kept_lines (l ∷ rest)
counted_by number l rest true is more = rw is more
counted_by number l rest false is more = rw is (ap (λ ls. l ∷ ls) more)

bare_from : (number : ℕ) (ls : List (List ℕ)) → map (λ one. one.1) (counted number ls) ≡ kept_lines ls
bare_from number [] = refl
bare_from number (l ∷ ls) = counted_by number l ls (is_passed_over l) refl (bare_from (number + 1) ls)

pub bare_lines : (text : List ℕ) → map (λ one. one.1) (numbered text) ≡ kept_lines (lines text)
bare_lines text = bare_from 1 (lines text)

-- a text has these lines that count, whatever follows it
abbrev pub Has : List ℕ → List (List ℕ) → Type 0
Has text ls = (rest : List ℕ) → kept_lines (lines (text ++ rest)) ≡ ls ++ kept_lines (lines rest)

pub has_none : Has [] []
has_none rest = refl

pub has_line : (l : List ℕ) → IsLine l → Has (line l) (l ∷ [])
has_line l is rest = ap kept_lines (lines_first l rest is.clear) ∙ rw is.counts refl

pub has_both : (a b : List ℕ) (xs ys : List (List ℕ)) → Has a xs → Has b ys → Has (a ++ b) (xs ++ ys)
has_both a b xs ys first second rest =
    ap (λ t. kept_lines (lines t)) (append_assoc a b rest) ∙ first (b ++ rest) ∙ ap (λ ls. xs ++ ls) (second rest) ∙ sym (append_assoc xs ys (kept_lines (lines rest)))

-- all lines of a text
pub has_all : (text : List ℕ) (ls : List (List ℕ)) → Has text ls → map (λ one. one.1) (numbered text) ≡ ls
has_all text ls has = bare_lines text ∙ ap (λ t. kept_lines (lines t)) (sym (append-nil text)) ∙ has [] ∙ append-nil ls

-- a text that ends with a line feed has its own lines
-- a text up to a line feed in parts, and what follows it
abbrev AreSplit : List ℕ → List ℕ → Type 0
AreSplit front rest =
    (first : List ℕ) × (others : List (List ℕ)) × (slice_split (is_byte 10) (front ++ 10 ∷ rest) ≡ first ∷ (others ++ slice_split (is_byte 10) rest))
    × (slice_split (is_byte 10) (front ++ 10 ∷ []) ≡ first ∷ (others ++ [] ∷ []))

split_more : (byte : ℕ) (front rest : List ℕ) (test : Bool) → is_byte 10 byte ≡ test → AreSplit front rest → AreSplit (byte ∷ front) rest
split_more byte front rest true is more = ([], more.0 ∷ more.1, rw (is, more.2) refl, rw (is, more.3) refl)
split_more byte front rest false is more = (byte ∷ more.0, more.1, rw (is, more.2) refl, rw (is, more.3) refl)

split_both : (front rest : List ℕ) → AreSplit front rest
split_both [] rest = ([], [], refl, refl)
split_both (byte ∷ front) rest = split_more byte front rest (is_byte 10 byte) refl (split_both front rest)

parts_then : (first : List ℕ) (others parts : List (List ℕ)) (part : List ℕ) → lines_of_parts (first ∷ (others ++ part ∷ parts)) ≡ lines_of_parts (first ∷ (others ++ [] ∷ [])) ++ lines_of_parts (part ∷ parts)
parts_then first [] parts part = refl
parts_then first (other ∷ others) parts part = ap (λ ls. strip_carriage_return first ∷ ls) (parts_then other others parts part)

lines_both : (front rest : List ℕ) → lines (front ++ 10 ∷ rest) ≡ lines (front ++ 10 ∷ []) ++ lines rest
lines_both front rest =
    let s = split_both front rest in
    let more = some_part (is_byte 10) rest in
    ap lines_of_parts (s.2 ∙ ap (λ ps. s.0 ∷ (s.1 ++ ps)) more.2) ∙ parts_then s.0 s.1 more.1 more.0
    ∙ ap (λ ls. ls ++ lines_of_parts (more.0 ∷ more.1)) (ap lines_of_parts (sym s.3)) ∙ ap (λ ps. lines (front ++ 10 ∷ []) ++ lines_of_parts ps) (sym more.2)

kept_more : (x : List ℕ) (xs ys : List (List ℕ)) (test : Bool) → counts_too x ≡ test → kept_lines (xs ++ ys) ≡ kept_lines xs ++ kept_lines ys → kept_lines ((x ∷ xs) ++ ys) ≡ kept_lines (x ∷ xs) ++ kept_lines ys
kept_more x xs ys true is more = rw is (ap (λ ls. x ∷ ls) more)
kept_more x xs ys false is more = rw is more

kept_both : (xs ys : List (List ℕ)) → kept_lines (xs ++ ys) ≡ kept_lines xs ++ kept_lines ys
kept_both [] ys = refl
kept_both (x ∷ xs) ys = kept_more x xs ys (counts_too x) refl (kept_both xs ys)

pub has_own : (text front : List ℕ) → text ≡ front ++ 10 ∷ [] → Has text (map (λ one. one.1) (numbered text))
has_own text front is rest =
    let whole : text ++ rest ≡ front ++ 10 ∷ rest = ap (λ t. t ++ rest) is ∙ append_assoc front (10 ∷ []) rest in
    let own : kept_lines (lines (front ++ 10 ∷ [])) ≡ map (λ one. one.1) (numbered text) = ap (λ t. kept_lines (lines t)) (sym is) ∙ sym (bare_lines text) in
    ap (λ t. kept_lines (lines t)) whole ∙ ap kept_lines (lines_both front rest) ∙ kept_both (lines (front ++ 10 ∷ [])) (lines rest) ∙ ap (λ ls. ls ++ kept_lines (lines rest)) own
