use Rattle.std.proofs.Common.{◌≡◌, ℕ, List, [], ◌∷◌, Option, Some, None, sym, ap, ◌∙◌, subst, IfNone, IfSome, codes}
use Rattle.boot_core.specs.CommandLine.{AskForGenerated, IsCount}
use Rattle.boot_io.specs.Words.{words_of}
use Rattle.boot_core.proofs.OneStatus.{second}
use Rattle.boot_core.proofs.command_line.asked_number.Goals as goal

counted : (words : List (List ℕ)) (word : List ℕ) (count : Option ℕ) → words ≡ codes "generate" ∷ word ∷ [] → IfSome count (IsCount word) → IfSome count (AskForGenerated words)
counted words word None e is = tt
counted words word (Some n) e is = (word, e, is)

uncounted : (words : List (List ℕ)) (word : List ℕ) (count : Option ℕ) → words ≡ codes "generate" ∷ word ∷ [] → IfNone count ((n : ℕ) → IsCount word n → ⊥) → IfNone count ((n : ℕ) → AskForGenerated words n → ⊥)
uncounted words word None e none = λ n is. none n (subst (λ w. IsCount w n) (ap second (sym is.1 ∙ e)) is.2)
uncounted words word (Some n) e none = tt

pub returns-in-Some : goal.returns-in-Some
returns-in-Some c =
    let words = words_of c.args.words.now in
    record {
      found = counted words c.in-Some.word.now c.count_of.result c.in-Some.ensures.found c.count_of.ensures.found;
      none = uncounted words c.in-Some.word.now c.count_of.result c.in-Some.ensures.found c.count_of.ensures.none;
    }
