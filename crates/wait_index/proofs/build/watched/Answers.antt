use Rattle.std.proofs.Common.{◌∙◌, ap, subst, refl, List, length, false}
use Rattle.std.proofs.lemmas.List.{length-replicate}
use Rattle.mod_catalog.specs.declared.catalogue.Module.{Module}
use Rattle.wait_index.specs.{declared.installed.Installed.Installed, Watching.AreNoted, Watching.noted_from}
use Rattle.wait_index.proofs.Making.{watched_made, nothing_there}
use Rattle.wait_index.proofs.build.watched.Goals as goal

pub returns-clause-watched : goal.returns-clause-watched
returns-clause-watched c =
    let watch = c.numbered.new.watch in
    let installed : Installed = record { slots = watch.slots; there = c.in-Ok.there; protocols = c.in-Ok.protocols } in
    let noted = subst (λ (ms : List Module). AreNoted watch.slots (λ guid list. noted_from c.args.phase guid 0 list ms) c.into_vec-lists.result.items c.note_modules.new.lists.items)
    c.as_slice.ensures c.in-Ok-note_modules.ensures in
    let there = ap length c.in-Ok.ensures.there ∙ length-replicate (length watch.watchers) false in
    watched_made c.args.phase c.args.catalog.now c.new-watch.result watch installed c.into_vec-lists.result.items c.note_modules.new.lists.items c.from_vec.result
    c.in-Ok.ensures.numbering c.in-Ok.ensures.covers c.into_vec-lists.ensures noted c.from_vec.ensures refl there c.in-Ok.ensures.slots

pub returns-clause-nothing : goal.returns-clause-nothing
returns-clause-nothing c =
    let installed : Installed = record { slots = c.numbered.new.watch.slots; there = c.in-Ok.there; protocols = c.in-Ok.protocols } in
    nothing_there installed (length c.numbered.new.watch.watchers) c.in-Ok.ensures.there
