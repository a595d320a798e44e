use Rattle.std.proofs.Common.{◌+◌, slice_set, refl, ap, sym, ◌∙◌, option_map}
use Rattle.pi_base.specs.declared.word.Word.TheVariants.{Success}
use Rattle.boot_model.specs.{declared.frame.Register.TheVariants.Number, PeiAction.Wrote, PeiAction.number_written}
use Rattle.boot_model.proofs.Held.{held_place}
use Rattle.phase_parts.specs.Writes.{written}
use Rattle.pei_core.proofs.address.write_address.Goals as goal

pub address-requires : goal.address-requires
address-requires g c = record {
  state = let h = c.requires.state in (h.0, h.1, held_place h.0 c.args.frame.now.registers c.args.x c.in-Some.offset h.2 c.in-Some.ensures);
}

pub returns-in-Some-clause-row : goal.returns-in-Some-clause-row
returns-in-Some-clause-row g c s stands held =
    let registers = c.args.frame.now.registers in
    let at = c.address.ensures.row s stands (held_place s registers c.args.x c.in-Some.offset held c.in-Some.ensures) in (
      ap (λ o. number_written registers c.args.v (option_map (λ place. s.base + place + c.args.more) o)) (sym c.in-Some.ensures)
          ∙ ap (λ n. Wrote (slice_set registers c.args.v (Number (n + c.args.more))) Success) (sym at)
          ∙ ap (λ writes. Wrote (written registers writes) Success) (sym c.one.ensures),
      refl,
    )
