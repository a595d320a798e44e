use Rattle.std.proofs.Common.{◌≡◌, ◌++◌, List, length}
use Rattle.pi_base.specs.declared.phase.Phase.TheVariants.{Pei, Dxe}
use Rattle.act_code.specs.declared.script.Script.{Script}
use Rattle.mod_catalog.specs.ModuleEntry.{script_for}
use Rattle.mod_catalog.proofs.part_scripts.part_scripts.Given as goal

-- those taken off the end have these as their first
abbrev pub invariant-scripts : goal.invariant-scripts
invariant-scripts l = record {
  taken : (taken : List Script) × (l.fn.scripts ≡ l.scripts ++ taken) × (l.pei ≡ script_for Pei taken) × (l.dxe ≡ script_for Dxe taken);
}

abbrev pub decreases-scripts : goal.decreases-scripts
decreases-scripts l = length l.scripts
