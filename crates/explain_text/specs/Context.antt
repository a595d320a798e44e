-- What the lines of modules that wait ask of a phase: which modules may install a GUID, and which started.
-- Own.
use Rattle.std.specs.Prelude.{List, length}
use Rattle.pi_base.specs.{declared.phase.Phase.Phase, declared.phase.Phase.TheVariants.Pei, declared.phase.Phase.TheVariants.Dxe}
use Rattle.mod_catalog.specs.declared.catalogue.Module.{Module}
use Rattle.explain_text.specs.{declared.reasons.Begun.Begun, declared.context.Context.Context, Flags.AreStarted, Givers.AreGivers}

-- of a phase
pub record IsContext (begun : List Begun) (modules : List Module) (phase : Phase) (context : Context) : Type 0 where
  pub givers : AreGivers phase 0 modules context.givers
  pub started : AreStarted begun phase (length modules) context.started

-- of both phases
pub record AreContexts (begun : List Begun) (modules : List Module) (pei dxe : Context) : Type 0 where
  pub of_pei : IsContext begun modules Pei pei
  pub of_dxe : IsContext begun modules Dxe dxe
