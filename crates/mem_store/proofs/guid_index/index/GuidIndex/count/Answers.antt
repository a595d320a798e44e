use Rattle.std.proofs.Common.{ap, ◌∙◌, length, List}
use Rattle.mem_store.specs.{declared.guid_index.index.Indexed.Indexed, Entries.entries_of}
use Rattle.mem_store.proofs.Having.{count_is}
use Rattle.mem_store.proofs.guid_index.index.GuidIndex.count.Goals as goal

pub returns : goal.returns
returns c =
    let list = c.self.inside.entries in
    let guid = c.args.guid.now in
    ap length (c.of.ensures ∙ c.self.invariant guid) ∙ count_is list guid ∙ ap (λ (l : List Indexed). length (entries_of l guid)) c.self.view_is
