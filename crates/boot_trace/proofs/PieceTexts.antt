-- Pieces that are gathered in a line.
use Rattle.std.proofs.Common.{◌≡◌, ◌<◌, ◌≤◌, ℕ, ◌+◌, List, [], ◌∷◌, ◌++◌, length, refl, sym, ap, ◌∙◌, take, drop, get_or, append_assoc, flat_map, Option, subst, append-nil, take-append-drop, take_all}
use Rattle.std.proofs.lemmas.List.{take_more}
use Rattle.std.specs.Io.KnownBytes.{Appends}
use Rattle.boot_io.specs.{Line.spaced, Sink.AppendsPart}
use Rattle.boot_io.proofs.PutsLaws.{appends_none, part_then, gathers_fails}
use Rattle.boot_trace.specs.{declared.piece.Piece.Piece, Pieces.piece_text, Pieces.piece_texts}

-- the text of words
abbrev pub words_text : List Piece → List ℕ
words_text words = flat_map spaced (piece_texts words)

words_text-append : (xs ys : List Piece) → words_text (xs ++ ys) ≡ words_text xs ++ words_text ys
words_text-append [] ys = refl
words_text-append (x ∷ xs) ys = ap (λ t. spaced (piece_text x) ++ t) (words_text-append xs ys) ∙ sym (append_assoc (spaced (piece_text x)) (words_text xs) (words_text ys))

-- one word more
pub words_more : (words : List Piece) (i : ℕ) (d : Piece) → i < length words
    → words_text (take (i + 1) words) ≡ words_text (take i words) ++ spaced (piece_text (get_or words i d))
words_more words i d within =
    ap words_text (take_more words i d within) ∙ words_text-append (take i words) (get_or words i d ∷ []) ∙ ap (λ t. words_text (take i words) ++ t) (append-nil (spaced (piece_text (get_or words i d))))

-- the words before a place, and those from it on
pub words_split : (words : List Piece) (i : ℕ) → words_text (take i words) ++ words_text (drop i words) ≡ words_text words
words_split words i = sym (words_text-append (take i words) (drop i words)) ∙ ap words_text (take-append-drop i words)

pub words_all : (words : List Piece) (i : ℕ) → length words ≤ i → words_text (take i words) ≡ words_text words
words_all words i all = ap words_text (take_all i words all)

-- nothing is gathered yet
pub none_gathered : (old : Option (List ℕ)) (line : List ℕ) → (part : List ℕ) × Appends old old part × (part ++ line ≡ line ++ [])
none_gathered old line = ([], appends_none old, sym (append-nil line))

-- the words before a place, the one there, and those behind it
pub words_at : (words : List Piece) (i : ℕ) (d : Piece) → i < length words
    → words_text (take i words) ++ (spaced (piece_text (get_or words i d)) ++ words_text (drop (i + 1) words)) ≡ words_text words
words_at words i d within =
    let word = spaced (piece_text (get_or words i d)) in
    let behind = words_text (drop (i + 1) words) in
    sym (append_assoc (words_text (take i words)) word behind) ∙ ap (λ t. t ++ behind) (sym (words_more words i d within)) ∙ words_split words (i + 1)

-- the sink fails in a piece of what is gathered
pub piece_fails : (old mid new : Option (List ℕ)) (line left before piece behind whole : List ℕ)
    → ((part : List ℕ) × Appends old mid part × (part ++ left ≡ line ++ before)) → AppendsPart mid new (left ++ piece)
    → before ++ (piece ++ behind) ≡ whole → AppendsPart old new (line ++ whole)
piece_fails old mid new line left before piece behind whole so_far fails is =
    let P : List ℕ → Type 0 = λ text. AppendsPart old new text in
    let text : so_far.0 ++ (left ++ piece) ≡ line ++ (before ++ piece) =
    sym (append_assoc so_far.0 left piece) ∙ ap (λ t. t ++ piece) so_far.2 ∙ append_assoc line before piece in
    let part : AppendsPart old new (line ++ (before ++ piece)) = subst P text (part_then old mid new so_far.0 (left ++ piece) so_far.1 fails) in
    subst P (ap (λ t. line ++ t) (append_assoc before piece behind ∙ is)) (gathers_fails old new line (before ++ piece) behind part)
