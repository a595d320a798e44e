-- Where memory is wanting in a boot.
use Rattle.std.proofs.Common.{ℕ, Bool, false, List, Option, Result, Ok, Err, IfErr, refl, sym, subst, inl}
use Rattle.boot_io.specs.declared.halt.Halt.{Halt}
use Rattle.boot_io.specs.declared.halt.Halt.TheVariants as H
use Rattle.boot_io.proofs.PutsLaws.{appends_none}
use Rattle.mod_catalog.specs.declared.catalogue.Catalog.{Catalog}
use Rattle.store_model.specs.StoreState.{Board}
use Rattle.mem_store.specs.declared.store.MemStore.{MemStore}
use Rattle.boot_core.specs.{declared.plan_boot.Booted.Booted, declared.status.Status.Status, Handing.IsBooted, Wanting.IsWantedOutsidePei}
use Rattle.boot_core.specs.Outcome.{EndsBy, Kind, OfFiles, OfSink, OfMemory, OfAnswer, Trail, kind_of}
use Rattle.boot_trace.specs.Printing.{Texts}
use Rattle.boot_core.specs.{declared.whole.boot.Ran.Ran, FirstBoot.WantsOutsidePei}
use Rattle.boot_core.proofs.{Causes.none_of, RunEnds.answer_of}

-- nothing was put
pub at_once : (takes : Bool) (board : Board) (catalog : Catalog) (fuel : ℕ) (old : Option (List ℕ))
    → WantsOutsidePei takes board catalog fuel (record { old = old; new = old }) H.Memory
at_once takes board catalog fuel old = λ takes_none. inl (appends_none old)

-- so the answer of a boot says it
pub answered_outside : (ran : Result (Ran MemStore) Halt) (board : Board) (catalog : Catalog) (fuel : ℕ) (booted : Booted) (t : Texts)
    → IsBooted ran booted → IfErr ran (WantsOutsidePei false board catalog fuel t) → IsWantedOutsidePei (kind_of booted.status) board catalog fuel t
answered_outside (Ok ran) board catalog fuel booted t is wants =
    let P : Status → Type 0 = λ status. IsWantedOutsidePei (kind_of status) board catalog fuel t in
    let Q : Kind → Type 0 = λ kind. IsWantedOutsidePei kind board catalog fuel t in
    subst P (sym is.0) (subst Q (sym (answer_of ran.«end»)) tt)
answered_outside (Err H.Sink) board catalog fuel booted t is wants =
    let P : Status → Type 0 = λ status. IsWantedOutsidePei (kind_of status) board catalog fuel t in
    subst P (sym is.0) tt
answered_outside (Err H.Memory) board catalog fuel booted t is wants =
    let P : Status → Type 0 = λ status. IsWantedOutsidePei (kind_of status) board catalog fuel t in
    subst P (sym is.0) (wants refl)

-- where no boot had begun nothing was put
pub refused_outside : (kind : Kind) (Out : Status → List ℕ → Type 0) (status : Status) (t : Trail) (board : Board) (catalog : Catalog) (fuel : ℕ)
    → EndsBy kind Out (λ _. ⊥) ⊥ status t → IsWantedOutsidePei kind board catalog fuel (record { old = t.old; new = t.new })
refused_outside OfFiles Out status t board catalog fuel ends = tt
refused_outside OfSink Out status t board catalog fuel ends = tt
refused_outside OfMemory Out status t board catalog fuel ends = inl (none_of Out ⊥ t.old t.new (λ begun. begun) ends.kept)
refused_outside OfAnswer Out status t board catalog fuel ends = tt
