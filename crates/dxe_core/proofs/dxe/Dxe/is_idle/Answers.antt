use Rattle.std.proofs.Common.{ap, ◌∙◌}
use Rattle.phase_parts.specs.Frames.{top_of}
use Rattle.dxe_core.specs.Standing.{DxeCore}
use Rattle.dxe_core.proofs.Cases.{none_stands}
use Rattle.dxe_core.proofs.dxe.Dxe.is_idle.Goals as goal

pub returns : goal.returns
returns c =
    none_stands c.top.result c.args.self.now.frames c.is_none.result (c.top.ensures ∙ ap (λ (core : DxeCore). top_of core.frames) c.self.view_is) c.is_none.ensures
