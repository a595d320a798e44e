-- What is told of both phases, put together.
-- Own.
use Rattle.std.specs.Prelude.{ℕ, [], ◌++◌}
use Rattle.boot_model.specs.{BootRun.dxe_result, declared.line.RunEnd.RunEnd}
use Rattle.boot_reasons.specs.{declared.dxe.DxeExplained.DxeExplained, declared.pei.PeiExplained.PeiExplained}
use Rattle.explain_text.specs.declared.reasons.Explained.{Explained}

-- of a boot that ends with PEI
abbrev pub alone : PeiExplained → ℕ → RunEnd → Explained
alone pei actions result = record {
  begun = pei.begun;
  held = pei.held;
  reported = pei.reported;
  discovered = [];
  moved = pei.moved;
  heap = pei.heap;
  actions = actions;
  result = result;
}

-- and of one that ends with DXE
abbrev pub together : PeiExplained → DxeExplained → Explained
together pei dxe = record {
  begun = pei.begun ++ dxe.begun;
  held = pei.held ++ dxe.held;
  reported = pei.reported;
  discovered = dxe.discovered;
  moved = pei.moved;
  heap = pei.heap;
  actions = dxe.actions;
  result = dxe_result dxe.«end»;
}
