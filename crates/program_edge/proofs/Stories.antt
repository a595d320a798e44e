-- What a text shows is what its first line and the lines behind it show.
use Rattle.std.proofs.Common.{◌≡◌, ℕ, ◌+◌, true, false, cond, ◌||◌, List, [], ◌∷◌, Some, length, drop, ap, ◌∙◌}
use Rattle.line_words.specs.Line.{lines}
use Rattle.program_edge.specs.BootStory.{count_behind, first_behind, has_front, is_discovered, is_discovery, is_refusal, last_start, refusal_behind}

pub front_here : (front first : List ℕ) (all others : List (List ℕ)) → all ≡ first ∷ others → has_front front first ≡ true
    → first_behind front all ≡ Some (drop (length front) first)
front_here front first all others here is_so =
    ap (first_behind front) here ∙ ap (λ b. cond b (Some (drop (length front) first)) (first_behind front others)) is_so

pub front_later : (front first : List ℕ) (all others : List (List ℕ)) → all ≡ first ∷ others → has_front front first ≡ false
    → first_behind front all ≡ first_behind front others
front_later front first all others here is_not =
    ap (first_behind front) here ∙ ap (λ b. cond b (Some (drop (length front) first)) (first_behind front others)) is_not

pub one_more : (front first : List ℕ) (all others : List (List ℕ)) → all ≡ first ∷ others → has_front front first ≡ true
    → count_behind front all ≡ 1 + count_behind front others
one_more front first all others here is_so = ap (count_behind front) here ∙ ap (λ b. cond b 1 0 + count_behind front others) is_so

pub refused_here : (start first : List ℕ) (all others : List (List ℕ)) → all ≡ first ∷ others → is_refusal first ≡ true
    → refusal_behind start all ≡ Some (start, first)
refused_here start first all others here is_so =
    ap (refusal_behind start) here ∙ ap (λ b. cond b (Some (start, first)) (refusal_behind (last_start start first) others)) is_so

pub refused_later : (start first : List ℕ) (all others : List (List ℕ)) → all ≡ first ∷ others → is_refusal first ≡ false
    → refusal_behind start all ≡ refusal_behind (last_start start first) others
refused_later start first all others here is_not =
    ap (refusal_behind start) here ∙ ap (λ b. cond b (Some (start, first)) (refusal_behind (last_start start first) others)) is_not

pub discovered_here : (volume : ℕ) (first : List ℕ) (all others : List (List ℕ)) → all ≡ first ∷ others → is_discovery volume first ≡ true
    → is_discovered volume all ≡ true
discovered_here volume first all others here is_so = ap (is_discovered volume) here ∙ ap (λ b. b || is_discovered volume others) is_so

pub discovered_later : (volume : ℕ) (first : List ℕ) (all others : List (List ℕ)) → all ≡ first ∷ others → is_discovery volume first ≡ false
    → is_discovered volume all ≡ is_discovered volume others
discovered_later volume first all others here is_not = ap (is_discovered volume) here ∙ ap (λ b. b || is_discovered volume others) is_not

-- an empty text has no lines
pub no_lines : (text : List ℕ) → text ≡ [] → lines text ≡ []
no_lines text none = ap lines none
