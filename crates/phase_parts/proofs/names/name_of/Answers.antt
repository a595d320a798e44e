use Rattle.std.proofs.Common.{Option, option_map, unwrap_or}
use Rattle.mod_catalog.specs.{declared.catalogue.Module.Module, Parts.no_name}
use Rattle.phase_parts.proofs.Got.{by_item, by_none}
use Rattle.phase_parts.proofs.names.name_of.Goals as goal

pub returns-in-Some : goal.returns-in-Some
returns-in-Some c =
    by_item (λ (found : Option Module). unwrap_or (option_map (λ m. m.name) found) no_name) c.as_slice.result.now c.args.catalog.now.modules c.args.number c.in-Some.found.now c.as_slice.ensures c.in-Some.ensures.lookup.3

pub returns-in-None : goal.returns-in-None
returns-in-None c =
    by_none (λ (found : Option Module). unwrap_or (option_map (λ m. m.name) found) no_name) c.as_slice.result.now c.args.catalog.now.modules c.args.number c.as_slice.ensures c.in-None.ensures.lookup.3
