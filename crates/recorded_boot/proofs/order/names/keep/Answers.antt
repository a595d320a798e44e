use Rattle.std.proofs.Common.{refl, length, rules}
use Rattle.std.proofs.lemmas.Option.{slice_get_read}
use Rattle.recorded_boot.proofs.Keeping.{none_there, put_there}
use Rattle.recorded_boot.proofs.order.names.keep.Goals as goal

pub returns : goal.returns
returns c =
    let maps = c.args.maps.now.items in
    let volume = c.args.member.now.volume in
    let map = c.index_mut-map.result.now in
    let there = slice_get_read maps (length maps) volume map refl c.requires c.index_mut-map.ensures.value in
    record {
      fresh = none_there maps volume c.args.member.now.name map there (search rules depth 2);
      volumes = search rules;
      kept = put_there maps volume c.args.member.now.name c.args.number map c.insert.new.self there c.in_ok-insert.ensures.ok;
    }
