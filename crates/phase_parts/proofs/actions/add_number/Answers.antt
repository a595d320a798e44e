use Rattle.std.proofs.Common.{ap, ◌∙◌, ◌∷◌, ◌+◌, ◌%◌, ◌^◌, option_map}
use Rattle.phase_parts.specs.Deed.{frame_after, number_written}
use Rattle.phase_parts.proofs.actions.add_number.Goals as goal

pub returns-in-Some : goal.returns-in-Some
returns-in-Some g c frame below e =
    c.set_number.ensures frame below e
    ∙ ap (λ held. frame_after frame (number_written frame.registers c.args.r (option_map (λ old. (old + c.args.n) % 2 ^ 64) held)) ∷ below) (c.in-Some.ensures frame below e)

pub returns-in-None : goal.returns-in-None
returns-in-None g c frame below e =
    c.answer.ensures frame below e
    ∙ ap (λ held. frame_after frame (number_written frame.registers c.args.r (option_map (λ old. (old + c.args.n) % 2 ^ 64) held)) ∷ below) (c.in-None.ensures frame below e)
