use Rattle.dxe_core.proofs.order.DriverOrder.empty.Goals as goal

pub returns : goal.returns
returns c catalog =
    let names = c.new-3.ensures catalog in
    record {
      known = record { differ = tt; in_catalog = tt };
      volumes_are = c.new.ensures;
      drivers_are = c.new-2.ensures;
      first_is = names.first_is;
      befores_are = names.befores_are;
      afters_are = names.afters_are;
      asking_are = names.asking_are;
    }
