use Rattle.std.proofs.Common.{◌++◌, ap, map, ◌∙◌}
use Rattle.boot_reasons.specs.{Needs.need_of, Noting.giver_in}
use Rattle.boot_reasons.proofs.{HeldParts.need_is, WalkedLists.map_on, WalkedLists.map_whole}
use Rattle.boot_reasons.proofs.needs.needs_of.Goals as goal

pub guids-init : goal.guids-init
guids-init c = ap (λ needs. needs ++ map (need_of (giver_in c.args.givers.now.map)) c.as_slice-rest.result.now) c.new-needs.ensures

pub guids-preserved : goal.guids-preserved
guids-preserved c =
    map_on (need_of (giver_in c.args.givers.now.map)) c.guids.rest.now _ c.guids.needs _ c.push.new.self _ c.in-len1-up.len_at_least c.in_ok-push.ensures.ok (need_is c.args.givers.now.map _ c.of.result c.of.ensures) c.guids.invariant

pub returns : goal.returns
returns c =
    let f = need_of (giver_in c.args.givers.now.map) in
    map_whole f c.guids.rest.now c.guids.needs _ c.in_default.len_below c.guids.invariant ∙ ap (map f) (c.as_slice-rest.ensures ∙ c.in_ok-guids.ensures)
