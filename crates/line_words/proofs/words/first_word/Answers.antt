use Rattle.line_words.proofs.WordLemmas.{words_first}
use Rattle.line_words.proofs.words.first_word.Goals as goal

pub returns-clause-words : goal.returns-clause-words
returns-clause-words c = λ some.
    rw (c.behind_spaces.ensures.same, c.split_at.ensures.front, c.split_at.ensures.back) (words_first c.args.line.now c.place_of.result c.place_of.ensures.first some c.requires)
