use Rattle.std.proofs.Common.{ℕ, sym, subst, ◌∙◌}
use Rattle.mod_catalog.specs.Parts.{module_name, module_volume}
use Rattle.pi_base.specs.declared.guid.Guid.{Guid}
use Rattle.recorded_boot.specs.Named.{IsNamed}
use Rattle.recorded_boot.proofs.Reading.{nothing_there, same_pair}
use Rattle.recorded_boot.proofs.trace.by_text.named_next.Goals as goal

pub returns-in-Some : goal.returns-in-Some
returns-in-Some c right catalog names number starts =
    let is = c.next_start.ensures right (module_volume catalog number) (module_name catalog number) starts.licence starts.readable starts.next in
    let there : ℕ × Guid = (module_volume catalog number, module_name catalog number) in
    let read : ℕ × Guid = (c.in-Some.volume, c.in-Some.name) in
    let pair = same_pair there read (sym is ∙ c.in-Some.is) in
    (c.number_of.ensures catalog names number).1 (subst (λ v. IsNamed catalog v c.in-Some.name number) pair.0 (subst (λ n. IsNamed catalog (module_volume catalog number) n number) pair.1 starts.named))

pub returns-in-None : goal.returns-in-None
returns-in-None c right catalog names number starts =
    absurd (nothing_there (module_volume catalog number, module_name catalog number) (sym c.in-None.is ∙ c.next_start.ensures right (module_volume catalog number) (module_name catalog number) starts.licence starts.readable starts.next))
