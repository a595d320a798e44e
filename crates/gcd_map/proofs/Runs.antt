-- Runs of commands, one more.
use Rattle.std.proofs.Common.{◌≡◌, ◌≢◌, List, [], ◌∷◌, ◌++◌, ℕ, ◌+◌, ◌<◌, length, map, take, get_or, refl, sym, ap, ◌∙◌, subst}
use Rattle.std.proofs.lemmas.List.{map-append, take_more}
use Rattle.gcd_map.specs.{declared.command.Command.Command, declared.perform.Answer.Answer, declared.perform.Answer.TheVariants.Refused}
use Rattle.gcd_map.specs.{declared.word.GcdWord.TheVariants.Memory, AddressSpace.MemorySpace, Run.CommandRow, Run.IsRun}

pub run_more : (old middle new : MemorySpace) (steps : List (Command × Answer)) (step : Command × Answer) → IsRun old steps middle → step.1 ≢ Refused Memory → CommandRow step.0 middle step.1 new
    → IsRun old (steps ++ step ∷ []) new
run_more old middle new [] step run other row = (other, (new, subst (λ (space : MemorySpace). CommandRow step.0 space step.1 new) run row, refl))
run_more old middle new (first ∷ steps) step run other row = (run.0, (run.1.0, run.1.1, run_more run.1.0 middle new steps step run.1.2 other row))

pub commands_more : (commands : List Command) (at : ℕ) (other : Command) (steps : List (Command × Answer)) (answer : Answer) → at < length commands → map (λ step. step.0) steps ≡ take at commands
    → map (λ step. step.0) (steps ++ (get_or commands at other, answer) ∷ []) ≡ take (at + 1) commands
commands_more commands at other steps answer within before =
    let first : Command × Answer → Command = λ step. step.0 in
    map-append first steps ((get_or commands at other, answer) ∷ []) ∙ ap (λ l. l ++ get_or commands at other ∷ []) before ∙ sym (take_more commands at other within)
