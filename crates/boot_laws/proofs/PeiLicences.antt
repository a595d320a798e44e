-- In every run of PEI, over a well-formed catalogue and a board with its facts, each step keeps its licences.
use Rattle.std.proofs.Common.{ℕ, zero, suc, Some, None}
use Rattle.mod_catalog.specs.{declared.catalogue.Catalog.Catalog, WellFormed.IsWellFormed}
use Rattle.boot_model.specs.Licence.{AlongRun, IsLicensedStep, IsLicensedRun}
use Rattle.boot_model.specs.{PeiMachine.PeiMachine, PeiStep.pei_step, PeiRun.pei_opening}
use Rattle.boot_laws.specs.RunFacts.{HasFacts}
use Rattle.boot_laws.proofs.{StoreLaws.StoreLaws, RunFacts.opening_has_facts, RunFacts.step_has_facts, PeiStarts.licensed_step}

licensed_from : StoreLaws → (catalog : Catalog) (fuel n : ℕ) (m : PeiMachine) → IsWellFormed catalog → HasFacts m → AlongRun catalog fuel (IsLicensedStep catalog) n m
licensed_from laws catalog fuel zero m well has = tt
licensed_from laws catalog fuel (suc n) m well has =
    elim m.ended as (λ o. elim o as (λ _. Type 0) [ Some end ↦ Unit {0} | None ↦ IsLicensedStep catalog m × AlongRun catalog fuel (IsLicensedStep catalog) n (pei_step catalog fuel m) ])
    [ Some end ↦ tt | None ↦ (licensed_step catalog m well has.store, licensed_from laws catalog fuel n (pei_step catalog fuel m) well (step_has_facts laws catalog fuel m well has)) ]

pub licensed_run : StoreLaws → IsLicensedRun
licensed_run laws catalog board well is fuel n = licensed_from laws catalog fuel n (pei_opening board catalog) well (opening_has_facts laws catalog board is)
