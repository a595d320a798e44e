use Rattle.std.proofs.Common.{List, subst}
use Rattle.mod_catalog.specs.declared.catalogue.Module.{Module}
use Rattle.wait_index.specs.Watching.{Covers, modules_push}
use Rattle.wait_index.proofs.Making.{covers_on}
use Rattle.wait_index.proofs.build.numbered.Goals as goal

pub returns-clause-covers : goal.returns-clause-covers
returns-clause-covers c =
    covers_on (λ guid. modules_push c.args.phase guid c.args.catalog.now.modules) c.args.watch.now c.number_modules.new.self c.protocols_of.new.watch
    (subst (λ (ms : List Module). Covers (λ guid. modules_push c.args.phase guid ms) c.args.watch.now c.number_modules.new.self) c.as_slice.ensures c.in_ok-number_modules.ensures.covers)
    c.in_ok-protocols.ensures.kept
