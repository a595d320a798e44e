use Rattle.std.proofs.Common.{ap, ◌∙◌, nat_lt}
use Rattle.mem_store.proofs.Having.{any_is}
use Rattle.mem_store.proofs.guid_index.index.GuidIndex.contains.Goals as goal

pub returns : goal.returns
returns c = ap (nat_lt 0) c.count.ensures ∙ any_is c.args.self.now c.args.guid.now
