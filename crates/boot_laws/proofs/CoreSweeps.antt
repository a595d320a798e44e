-- The sweep of the core's own call lies within the lists.
use Rattle.std.proofs.Common.{◌≡◌, [], ◌∷◌, refl, subst, Ok, Err}
use Rattle.std.specs.Bool.{⊤}
use Rattle.pi_base.specs.declared.known_guid.TheConstants.{MEMORY_PPI}
use Rattle.store_model.specs.{declared.state.TheConstants.CORE, declared.store_handle.DescKind.TheVariants.Ppi}
use Rattle.store_model.specs.{declared.store_handle.Desc.Desc, declared.store_handle.GuidFrom.TheVariants.Inline}
use Rattle.store_model.specs.{declared.store_handle.Sweep.Sweep, StoreState.StoreState, StateFacts.IsSweepOf, Service.Service}
use Rattle.store_model.specs.Service.Descriptor.{desc}
use Rattle.store_model.specs.Service.Install.{install, both_or_full, core_of, core_install}
use Rattle.boot_laws.proofs.Staying.{install_stays}
use Rattle.boot_laws.specs.SoundRuns.{CoreSweepsAreSound}

abbrev pub IsCoreCall : Service Sweep → Type 0
IsCoreCall (Ok pair) = IsSweepOf pair.1 pair.0
IsCoreCall (Err fault) = ⊤

installed : (service : Service Sweep) → ((sweep : Sweep) (new : StoreState) → service ≡ Ok (sweep, new) → IsSweepOf new sweep) → IsCoreCall (both_or_full service)
installed (Ok (sweep, new)) f = f sweep new refl
installed (Err fault) f = tt

made : (service : Service Desc) → IsCoreCall (core_of service)
made (Ok (d, s)) = installed (install s (d ∷ []) CORE) (λ sweep new e. (install_stays s (d ∷ []) CORE sweep new e).1.0)
made (Err fault) = tt

pub core_sound : (s : StoreState) → IsCoreCall (core_install s)
core_sound s = made (desc s Ppi (Inline MEMORY_PPI) 0)

pub core_sweeps_are_sound : CoreSweepsAreSound
core_sweeps_are_sound s new sweep e = let is : IsCoreCall (Ok (sweep, new)) = subst (λ service. IsCoreCall service) e (core_sound s) in is
