use Rattle.std.proofs.Common.{◌++◌, take, ap, ◌∙◌, append_assoc, take-append-drop}
use Rattle.boot_io.proofs.PutsLaws.{appends_then}
use Rattle.boot_io.proofs.writing.write_whole.Goals as goal

pub pieces-preserved-in-Ok : goal.pieces-preserved-in-Ok
pieces-preserved-in-Ok g c =
    let C = g.W.Write.contents in
    let before = c.pieces.invariant in
    let rest = c.pieces.rest.now in
    let part = take c.in-Ok.count rest in (
      before.0 ++ part,
      appends_then (C c.args.writer.now) (C c.pieces.writer) (C c.write.new.self) before.0 part before.1 c.in-Ok.ensures.bytes,
      append_assoc before.0 part c.split_at.result.1.now
          ∙ ap (λ t. before.0 ++ t) (ap (λ t. part ++ t) c.split_at.ensures.back ∙ take-append-drop c.in-Ok.count rest) ∙ before.2,
    )
