use Rattle.std.proofs.Common.{◌∙◌, ap, ◌++◌}
use Rattle.mod_catalog.specs.declared.limits.TheConstants.{MOST_MODULES}
use Rattle.boot_laws.proofs.PartLists.{ranked_in}
use Rattle.dxe_dispatch.proofs.{PassLists.one_volume, PassLists.pushed, Scheduling.ranked_room}
use Rattle.dxe_dispatch.proofs.passes.push_ranked.Goals as goal

pub push_ranked-requires-clause-room : goal.push_ranked-requires-clause-room
push_ranked-requires-clause-room c = ranked_room c.args.catalog.now c.args.volume MOST_MODULES c.new-parts.result c.new-parts.ensures c.requires

pub returns-clause-more : goal.returns-clause-more
returns-clause-more c =
    let catalog = c.args.catalog.now in
    let ranked = c.as_slice.ensures ∙ c.push_ranked.ensures ∙ ap (λ xs. xs ++ ranked_in catalog c.args.volume) c.new-parts.ensures ∙ one_volume catalog c.args.volume in
    pushed c.append.result c.args.items.now c.append.new.self c.as_slice.result.now _ ranked c.append.ensures.ok
