-- Lines end with a line feed, and have none before it.
use Rattle.std.proofs.Common.{◌≡◌, ◌++◌, ◌+◌, ◌<◌, ℕ, suc, List, [], ◌∷◌, refl, sym, ap, ◌∙◌, true, false, Bool, not, eqb, arith, length, take, drop, get_or, take_at, drop_at}
use Rattle.std.specs.List.{list_all, position_or_len}
use Rattle.std.proofs.{lemmas.Bool.and_parts, lemmas.Bool.Decides.nat_tests, lemmas.List.Folds.list_all-append}
use Rattle.std.proofs.lemmas.List.Sums.{split_at_first, passes_at_first}
use Rattle.line_words.specs.PrintedWords.{Lacks}

abbrev is_byte : ℕ → ℕ → Bool
is_byte sought byte = eqb byte sought

pub both_lack : (front back : List ℕ) → Lacks 10 front → Lacks 10 back → Lacks 10 (front ++ back)
both_lack front back a b = list_all-append (λ byte. not (eqb byte 10)) front back ∙ rw (a, b) refl

no_feed : (test : Bool) → not test ≡ true → test ≡ false
no_feed true is = cc
no_feed false is = refl

-- the line feed of a line is the first
line_place : (body rest : List ℕ) → Lacks 10 body → position_or_len (is_byte 10) (body ++ 10 ∷ rest) ≡ length body
line_place [] rest lacks = refl
line_place (byte ∷ body) rest lacks =
    let parts = and_parts (not (eqb byte 10)) (list_all (λ b. not (eqb b 10)) body) lacks in
    let other : eqb byte 10 ≡ false = no_feed (eqb byte 10) parts.0 in
    rw other (ap (λ n. 1 + n) (line_place body rest parts.1) ∙ omega arith)

-- a text has one first line
pub same_line : (body other rest others : List ℕ) → Lacks 10 body → Lacks 10 other → body ++ 10 ∷ rest ≡ other ++ 10 ∷ others → body ≡ other
same_line body other rest others lacks too is =
    let place : length body ≡ length other = sym (line_place body rest lacks) ∙ ap (position_or_len (is_byte 10)) is ∙ line_place other others too in
    sym (take_at body (10 ∷ rest) (length body) refl) ∙ ap (take (length body)) is ∙ take_at other (10 ∷ others) (length body) (sym place)

pub feed_there : (front rest : List ℕ) → Lacks 10 (front ++ 10 ∷ rest) → ⊥
feed_there [] rest lacks = let never : false ≡ true = lacks in cc
feed_there (byte ∷ front) rest lacks = feed_there front rest (and_parts (not (eqb byte 10)) (list_all (λ b. not (eqb b 10)) (front ++ 10 ∷ rest)) lacks).1

-- what stands before the first line feed has none
feed_before : (byte : ℕ) (rest : List ℕ) (test : Bool) → eqb byte 10 ≡ test → Lacks 10 (take (position_or_len (is_byte 10) rest) rest) → Lacks 10 (take (position_or_len (is_byte 10) (byte ∷ rest)) (byte ∷ rest))
feed_before byte rest true is lacks = rw is refl
feed_before byte rest false is lacks =
    let next : 1 + position_or_len (is_byte 10) rest ≡ suc (position_or_len (is_byte 10) rest) = omega arith in
    let front : take (position_or_len (is_byte 10) (byte ∷ rest)) (byte ∷ rest) ≡ byte ∷ take (position_or_len (is_byte 10) rest) rest = rw (is, next) refl in
    rw front (rw is lacks)

lacks_before : (text : List ℕ) → Lacks 10 (take (position_or_len (is_byte 10) text) text)
lacks_before [] = refl
lacks_before (byte ∷ rest) = feed_before byte rest (eqb byte 10) refl (lacks_before rest)

pub front_lacks : (text front : List ℕ) (n : ℕ) → n ≡ position_or_len (is_byte 10) text → front ≡ take n text → Lacks 10 front
front_lacks text front n place is = rw (is, place) (lacks_before text)

-- a text is what stands before the first line feed, the line feed, and what follows
pub feed_cut : (text : List ℕ) (n : ℕ) → n ≡ position_or_len (is_byte 10) text → n < length text → text ≡ take n text ++ 10 ∷ drop (n + 1) text
feed_cut text n place within =
    let p = position_or_len (is_byte 10) text in
    let inside : p < length text = rw (← place) within in
    let passes : eqb (get_or text p 0) 10 ≡ true = passes_at_first (is_byte 10) text 0 inside in
    let feed : get_or text p 0 ≡ 10 = grind (arith, nat_tests) in
    rw place (split_at_first (is_byte 10) text 0 inside ∙ ap (λ byte. take p text ++ byte ∷ drop (p + 1) text) feed)

-- what follows the first line is one
pub same_rest : (body other rest others : List ℕ) → Lacks 10 body → Lacks 10 other → body ++ 10 ∷ rest ≡ other ++ 10 ∷ others → rest ≡ others
same_rest body other rest others lacks too is =
    let same : body ≡ other = same_line body other rest others lacks too is in
    let whole : body ++ 10 ∷ rest ≡ body ++ 10 ∷ others = is ∙ ap (λ b. b ++ 10 ∷ others) (sym same) in
    ap (drop 1) (sym (drop_at body (10 ∷ rest) (length body) refl) ∙ ap (drop (length body)) whole ∙ drop_at body (10 ∷ others) (length body) refl)
