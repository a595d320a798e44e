use Rattle.explain_text.proofs.Words.{word_put}
use Rattle.explain_text.proofs.catalog.line.put_words.Goals as goal

pub words-preserved : goal.words-preserved
words-preserved c = word_put c.args.words.now c.words.word-index _ c.args.out.now c.words.out c.put_word.new.out c.words-test.true c.in_ok-put_word.ensures c.words.invariant
