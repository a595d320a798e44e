use Rattle.std.proofs.Common.{◌++◌, drop, sym, ap, ◌∙◌, take-append-drop}
use Rattle.boot_io.proofs.memory_sink.front_of.Goals as goal

pub returns-clause-begins : goal.returns-clause-begins
returns-clause-begins c =
    let piece = c.args.piece.now in
    let rest = drop c.args.len piece in
    (rest, sym (take-append-drop c.args.len piece) ∙ ap (λ t. t ++ rest) (sym c.split_at.ensures.front))
