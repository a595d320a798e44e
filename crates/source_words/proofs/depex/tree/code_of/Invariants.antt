use Rattle.std.proofs.Common.{◌≡◌, zero, ◌+◌, ◌≤◌, ◌++◌, [], length}
use Rattle.source_words.specs.{declared.depex.walk.Stage.TheVariants.Due, Tokens.tokens, Cause.tree_cause, Emission.emitted}
use Rattle.source_words.proofs.depex.tree.code_of.Given as goal

-- the words so far are gone through
abbrev pub invariant-words : goal.invariant-words
invariant-words l = record {
  few : l.walk.depth + length l.rest ≤ length l.text;
  cause : tree_cause zero Due (tokens l.text) ≡ tree_cause l.walk.depth l.walk.stage (tokens l.rest);
  code : emitted [] Due (tokens l.text) ≡ l.walk.code ++ emitted l.walk.waiting l.walk.stage (tokens l.rest);
}

abbrev pub decreases-words : goal.decreases-words
decreases-words l = length l.rest
