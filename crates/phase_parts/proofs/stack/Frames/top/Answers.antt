use Rattle.std.proofs.Common.{List, ◌-◌, ◌∙◌, ap, length, slice_get}
use Rattle.boot_model.specs.declared.frame.Frame.{Frame}
use Rattle.phase_parts.proofs.Topmost.{top_get}
use Rattle.phase_parts.proofs.stack.Frames.top.Goals as goal

pub returns : goal.returns
returns g c =
    c.last.ensures.value ∙ ap (λ (frames : List (Frame g.row.W.Denot)). slice_get frames (length frames - 1)) c.as_slice.ensures.value
    ∙ top_get c.self.inside.items.items c.args.self.now c.self.view_is
