use Rattle.std.proofs.Common.{◌≡◌, ◌≤◌, drop}
use Rattle.source_words.specs.Script.{action_causes, first_fault}
use Rattle.source_words.proofs.script.script.action_fault.Given as goal

-- nothing is wrong at the actions so far
abbrev pub invariant-actions : goal.invariant-actions
invariant-actions l = (first_fault 0 (action_causes l.count 0 l.actions) ≡ first_fault l.index (action_causes l.count l.index (drop l.index l.actions))) × (l.index ≤ 1024)
