use Rattle.std.proofs.Common.{◌<◌, ◌≤◌, length, sym, ◌∙◌, arith}
use Rattle.std.proofs.lemmas.Bool.Decides.{nat_tests}
use Rattle.dxe_dispatch.proofs.Followed.{follows_end, follows_left, none_left}
use Rattle.dxe_dispatch.proofs.root.root_of.Goals as goal

pub names-preserved : goal.names-preserved
names-preserved c m order =
    let below : c.names.counter < length c.args.catalog.now.modules = grind (arith, nat_tests) in
    sym (follows_left c.args.catalog.now m (length c.args.catalog.now.modules) c.names.counter c.names.root c.in-Some.target below (sym (c.target_of.ensures m order) ∙ c.in-Some.is)) ∙ c.names.invariant m order

pub returns-in-None : goal.returns-in-None
returns-in-None c m order =
    sym (follows_end c.args.catalog.now m _ c.names.root (sym (c.target_of.ensures m order) ∙ c.in-None.is)) ∙ c.names.invariant m order

pub returns : goal.returns
returns c m order =
    let out : length c.args.catalog.now.modules ≤ c.names.counter = grind (arith, nat_tests) in
    sym (none_left c.args.catalog.now m (length c.args.catalog.now.modules) c.names.counter c.names.root out) ∙ c.names.invariant m order
