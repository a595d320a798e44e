-- One explanation of a phase tells the lists of one run.
use Rattle.std.proofs.Common.{◌≡◌, List, sym, ◌∙◌}
use Rattle.mod_catalog.specs.declared.catalogue.Catalog.{Catalog}
use Rattle.boot_model.specs.{DxeMachine.DxeMachine, PeiMachine.PeiMachine}
use Rattle.std.proofs.lemmas.Option.{same_Some}
use Rattle.boot_reasons.specs.{declared.dxe.DxeExplained.DxeExplained, declared.pei.PeiExplained.PeiExplained, DxeTelling.IsDxeExplained}
use Rattle.boot_reasons.specs.PeiEnding.{IsPeiExplained}

pub one_told : (catalog : Catalog) (earlier : List PeiMachine) (m : PeiMachine) (one other : PeiExplained) → IsPeiExplained catalog earlier m one → IsPeiExplained catalog earlier m other → one ≡ other
one_told catalog earlier m one other p q =
    let how : one.«end» ≡ other.«end» = same_Some one.«end» other.«end» (sym p.ended ∙ q.ended) in
    let begun : one.begun ≡ other.begun = p.begun ∙ sym q.begun in
    let held : one.held ≡ other.held = p.held ∙ sym q.held in
    let reported : one.reported ≡ other.reported = p.reported ∙ sym q.reported in
    let moved : one.moved ≡ other.moved = p.moved ∙ sym q.moved in
    let heap : one.heap ≡ other.heap = p.heap ∙ sym q.heap in
    λ j. record { «end» = how j; begun = begun j; held = held j; reported = reported j; moved = moved j; heap = heap j }

pub one_told_in_dxe : (catalog : Catalog) (earlier : List DxeMachine) (m : DxeMachine) (one other : DxeExplained) → IsDxeExplained catalog earlier m one → IsDxeExplained catalog earlier m other → one ≡ other
one_told_in_dxe catalog earlier m one other p q =
    let how : one.«end» ≡ other.«end» = same_Some one.«end» other.«end» (sym p.ended ∙ q.ended) in
    let begun : one.begun ≡ other.begun = p.begun ∙ sym q.begun in
    let held : one.held ≡ other.held = p.held ∙ sym q.held in
    let discovered : one.discovered ≡ other.discovered = p.discovered ∙ sym q.discovered in
    let actions : one.actions ≡ other.actions = p.actions_are ∙ sym q.actions_are in
    λ j. record { «end» = how j; begun = begun j; held = held j; discovered = discovered j; actions = actions j }
