use Rattle.std.proofs.Common.{[], ◌∷◌, subst}
use Rattle.mod_catalog.specs.Parts.{module_name}
use Rattle.dxe_core.specs.{declared.names.Names.Names, Lists.IsPushed, Names.IsFirstOfName, Names.NamesGrow}
use Rattle.dxe_core.proofs.{Listed.on_ok, NamesMore.names_more}
use Rattle.dxe_core.proofs.names.Names.push.Goals as goal

pub returns : goal.returns
returns c =
    let catalog = c.args.catalog.now in
    let number = c.args.number in
    let old = c.args.self.now in
    let before = c.given_by-before.result.0 in
    let after = c.given_by-before.result.1 in
    let new : Names = record { first = c.put_first.new.first; befores = c.push_under.new.self; afters = c.push_under-2.new.self; asking = c.push_under-3.new.self } in
    let first : IsFirstOfName old.first (module_name catalog number) number new.first = subst (λ name. IsFirstOfName old.first name number new.first) c.name_of.ensures c.in_ok-put_first.ensures in
    on_ok c.push_under-3.result (IsPushed old.asking c.name_asked.result number new.asking) (NamesGrow catalog old (number ∷ []) new)
    (names_more catalog number old new before after c.name_asked.result c.given_by-before.ensures.before c.given_by-before.ensures.after c.name_asked.ensures first c.in_ok-push_under.ensures c.in_ok-push_under-2.ensures) c.push_under-3.ensures
