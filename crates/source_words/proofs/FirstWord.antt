-- The first word of a line that begins with no blank.
use Rattle.std.proofs.Common.{◌≡◌, ℕ, zero, suc, ◌<◌, ◌≤◌, ◌||◌, Bool, true, false, cond, not, List, [], ◌∷◌, length, take, drop, get_or, refl, ap, ◌∙◌, arith}
use Rattle.source_words.specs.Words.{is_blank, is_bracket, is_comment, is_inner, joined, words}

fourth : (a c b : Bool) (x w y z : List (List ℕ)) → not (a || (c || b)) ≡ true → cond a x (cond c w (cond b y z)) ≡ z
fourth true c b x w y z h = absurd cc
fourth false true b x w y z h = absurd cc
fourth false false true x w y z h = absurd cc
fourth false false false x w y z h = refl

second : (a c : Bool) (x w y : List (List ℕ)) → a ≡ false → c ≡ true → cond a x (cond c w y) ≡ w
second a c x w y p q = rw (p, q) refl

third : (a c b : Bool) (x w y z : List (List ℕ)) → a ≡ false → c ≡ false → b ≡ true → cond a x (cond c w (cond b y z)) ≡ y
third a c b x w y z p q r = rw (p, q, r) refl

inner_by : (a c b : Bool) → a ≡ false → c ≡ false → b ≡ false → not (a || (c || b)) ≡ true
inner_by a c b p q r = rw (p, q, r) refl

-- nothing is joined where no inner byte follows
apart : (x next : ℕ) (rest : List ℕ) (others : List (List ℕ)) → is_inner next ≡ false → joined x (next ∷ rest) others ≡ (x ∷ []) ∷ others
apart x next rest [] h = refl
apart x next rest (word ∷ others) h = rw h refl

together : (x next : ℕ) (rest word : List ℕ) (others : List (List ℕ)) → is_inner next ≡ true → joined x (next ∷ rest) (word ∷ others) ≡ (x ∷ word) ∷ others
together x next rest word others h = rw h refl

inner_head : (x : ℕ) (rest : List ℕ) → is_inner x ≡ true → words (x ∷ rest) ≡ joined x rest (words rest)
inner_head x rest h = fourth (is_blank x) (is_comment x) (is_bracket x) (words rest) [] ((x ∷ []) ∷ words rest) (joined x rest (words rest)) h

-- a comment has no words
pub comment_first : (line : List ℕ) → 0 < length line → is_blank (get_or line 0 0) ≡ false → is_comment (get_or line 0 0) ≡ true → words line ≡ []
comment_first [] some blank comment = absurd (omega arith)
comment_first (x ∷ rest) some blank comment =
    second (is_blank x) (is_comment x) (words rest) [] (cond (is_bracket x) ((x ∷ []) ∷ words rest) (joined x rest (words rest))) blank comment

pub bracket_first : (line : List ℕ) → 0 < length line → is_blank (get_or line 0 0) ≡ false → is_comment (get_or line 0 0) ≡ false → is_bracket (get_or line 0 0) ≡ true
    → words line ≡ take 1 line ∷ words (drop 1 line)
bracket_first [] some blank plain bracket = absurd (omega arith)
bracket_first (x ∷ rest) some blank plain bracket =
    third (is_blank x) (is_comment x) (is_bracket x) (words rest) [] ((x ∷ []) ∷ words rest) (joined x rest (words rest)) blank plain bracket

inner_first : (line : List ℕ) (n : ℕ) → suc n ≤ length line → ((k : ℕ) → k < suc n → is_inner (get_or line k 0) ≡ true)
    → (suc n < length line → is_inner (get_or line (suc n) 0) ≡ false) → words line ≡ take (suc n) line ∷ words (drop (suc n) line)
inner_first [] n within inner end = absurd (omega arith)
inner_first (x ∷ []) zero within inner end = inner_head x [] (inner 0 (omega arith))
inner_first (x ∷ []) (suc n) within inner end = absurd (omega arith)
inner_first (x ∷ (next ∷ rest)) zero within inner end = inner_head x (next ∷ rest) (inner 0 (omega arith)) ∙ apart x next rest (words (next ∷ rest)) (end (omega arith))
inner_first (x ∷ (next ∷ rest)) (suc n) within inner end =
    let less = inner_first (next ∷ rest) n (omega arith) (λ k h. inner (suc k) (omega arith)) (λ h. end (omega arith)) in
    inner_head x (next ∷ rest) (inner 0 (omega arith)) ∙ ap (joined x (next ∷ rest)) less
    ∙ together x next rest (take (suc n) (next ∷ rest)) (words (drop (suc n) (next ∷ rest))) (inner 1 (omega arith))

-- the length of the word is given
pub inner_word : (line : List ℕ) (n : ℕ) → 0 < length line → is_blank (get_or line 0 0) ≡ false → is_comment (get_or line 0 0) ≡ false → is_bracket (get_or line 0 0) ≡ false → n ≤ length line
    → ((k : ℕ) → k < n → is_inner (get_or line k 0) ≡ true) → (n < length line → is_inner (get_or line n 0) ≡ false) → words line ≡ take n line ∷ words (drop n line)
inner_word line zero some blank plain bracket within inner end =
    let is : is_inner (get_or line 0 0) ≡ true = inner_by (is_blank (get_or line 0 0)) (is_comment (get_or line 0 0)) (is_bracket (get_or line 0 0)) blank plain bracket in
    let never : is_inner (get_or line 0 0) ≡ false = end some in
    absurd cc
inner_word line (suc n) some blank plain bracket within inner end = inner_first line n within inner end
