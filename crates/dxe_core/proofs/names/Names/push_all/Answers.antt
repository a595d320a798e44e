use Rattle.std.proofs.Common.{◌++◌, take, ap, append_assoc, sym, subst, ◌∙◌}
use Rattle.std.proofs.lemmas.List.{take_more}
use Rattle.dxe_core.specs.Names.{AreDriverNames}
use Rattle.dxe_core.proofs.names.Names.push_all.Goals as goal

pub drivers-preserved : goal.drivers-preserved
drivers-preserved c =
    let numbers = c.args.numbers.now in
    let i = c.drivers.number-index in
    record {
      names = λ drivers are.
          let grown = take_more numbers i 0 c.drivers-test.true in
          subst (λ xs. AreDriverNames c.args.catalog.now xs c.push.new.self) (append_assoc drivers (take i numbers) _ ∙ ap (λ xs. drivers ++ xs) (sym grown))
          (c.in_ok-push.ensures (drivers ++ take i numbers) (c.drivers.invariant.names drivers are));
    }
