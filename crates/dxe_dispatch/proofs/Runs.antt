-- A run of DXE, a step at a time.
use Rattle.std.proofs.Common.{◌≡◌, ◌≤◌, ℕ, zero, suc, ◌+◌, List, [], ◌++◌, length, Option, Some, None, refl, sym, ap, ◌∙◌, append_assoc, arith, append-nil, length-append}
use Rattle.std.proofs.lemmas.Grind.{flat_map-append}
use Rattle.pi_base.specs.declared.phase.Phase.TheVariants.{Dxe}
use Rattle.mod_catalog.specs.{declared.catalogue.Catalog.Catalog, Parts.parts_in}
use Rattle.boot_model.specs.{declared.line.Line.Line, declared.phase_end.DxeEnd.DxeEnd, DxeMachine.DxeMachine, DxeChoice.drivers_of}
use Rattle.boot_model.specs.{DxeStep.dxe_step, DxeRun.dxe_run}
use Rattle.dxe_dispatch.proofs.Growing.{step_grew}

-- the run of a machine by how it has ended
abbrev run_by : Catalog → ℕ → ℕ → DxeMachine → Option DxeEnd → DxeMachine
run_by catalog fuel n m o = elim o [ Some end ↦ m | None ↦ dxe_run catalog fuel n (dxe_step catalog fuel m) ]

-- one step and the rest
pub goes : (catalog : Catalog) (fuel n : ℕ) (m : DxeMachine) → m.ended ≡ None → dxe_run catalog fuel (suc n) m ≡ dxe_run catalog fuel n (dxe_step catalog fuel m)
goes catalog fuel n m running = ap (run_by catalog fuel n m) running

-- what has ended stays
pub stays : (catalog : Catalog) (fuel n : ℕ) (m : DxeMachine) (end : DxeEnd) → m.ended ≡ Some end → dxe_run catalog fuel n m ≡ m
stays catalog fuel zero m end ended = refl
stays catalog fuel (suc n) m end ended = ap (run_by catalog fuel n m) ended

-- a step more at the end of a run that has not ended
pub goes_on : (catalog : Catalog) (fuel n : ℕ) (m : DxeMachine) → (dxe_run catalog fuel n m).ended ≡ None → dxe_run catalog fuel (suc n) m ≡ dxe_step catalog fuel (dxe_run catalog fuel n m)
goes_on catalog fuel zero m running = goes catalog fuel 0 m running
goes_on catalog fuel (suc n) m running = by m.ended refl (goes_on catalog fuel n (dxe_step catalog fuel m))
  where
    by : (o : Option DxeEnd) → m.ended ≡ o
        → ((dxe_run catalog fuel n (dxe_step catalog fuel m)).ended ≡ None → dxe_run catalog fuel (suc n) (dxe_step catalog fuel m) ≡ dxe_step catalog fuel (dxe_run catalog fuel n (dxe_step catalog fuel m)))
        → dxe_run catalog fuel (suc (suc n)) m ≡ dxe_step catalog fuel (dxe_run catalog fuel (suc n) m)
    by None e on =
        let one : dxe_run catalog fuel (suc n) m ≡ dxe_run catalog fuel n (dxe_step catalog fuel m) = goes catalog fuel n m e in
        let going : (dxe_run catalog fuel n (dxe_step catalog fuel m)).ended ≡ None = ap (λ (x : DxeMachine). x.ended) (sym one) ∙ running in
        goes catalog fuel (suc n) m e ∙ on going ∙ ap (dxe_step catalog fuel) (sym one)
    by (Some end) e on =
        let same : (dxe_run catalog fuel (suc n) m).ended ≡ Some end = ap (λ (x : DxeMachine). x.ended) (stays catalog fuel (suc n) m end e) ∙ e in
        let never : Some end ≡ None = sym same ∙ running in cc

-- lines are only added
pub run_tells : (catalog : Catalog) (fuel n : ℕ) (m : DxeMachine) → (told : List Line) × ((dxe_run catalog fuel n m).lines ≡ m.lines ++ told)
run_tells catalog fuel zero m = ([], sym (append-nil m.lines))
run_tells catalog fuel (suc n) m =
    elim m.ended as (λ o. (told : List Line) × ((run_by catalog fuel n m o).lines ≡ m.lines ++ told)) [
      | Some end ↦ ([], sym (append-nil m.lines))
      | None ↦
          let most : ℕ = fuel + m.actions + 1 in
          let grew = step_grew catalog fuel most m (omega arith) (omega arith) in
          let rest = run_tells catalog fuel n (dxe_step catalog fuel m) in
          (grew.told ++ rest.0, rest.1 ∙ ap (λ lines. lines ++ rest.0) grew.lines ∙ append_assoc m.lines grew.told rest.0)
    ]

-- the discovered drivers only become more
pub discovered_more : (catalog : Catalog) (old more new : List ℕ) → new ≡ old ++ more → length (drivers_of catalog old) ≤ length (drivers_of catalog new)
discovered_more catalog old more new is =
    let all : drivers_of catalog new ≡ drivers_of catalog old ++ drivers_of catalog more = ap (drivers_of catalog) is ∙ flat_map-append (parts_in Dxe catalog) old more in
    let long : length (drivers_of catalog new) ≡ length (drivers_of catalog old) + length (drivers_of catalog more) = ap length all ∙ length-append (drivers_of catalog old) (drivers_of catalog more) in
    omega (arith, long)
