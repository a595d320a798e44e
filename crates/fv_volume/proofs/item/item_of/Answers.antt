use Rattle.std.proofs.Common.{length, ◌-◌, sym, ◌∙◌, arith}
use Rattle.fv_volume.proofs.Items.{size_fits}
use Rattle.fv_volume.proofs.item.item_of.Goals as goal

pub overflow_add-end : goal.overflow_add-end
overflow_add-end c =
    let fits = size_fits c.args.format (length c.args.image.now - c.args.at) c.args.header.now (sym c.size_is_wrong.ensures ∙ c.if-size_is_wrong.false) in
    omega (arith, fits.1, c.requires.room)

pub overflow_sub-body_len : goal.overflow_sub-body_len
overflow_sub-body_len c = (size_fits c.args.format (length c.args.image.now - c.args.at) c.args.header.now (sym c.size_is_wrong.ensures ∙ c.if-size_is_wrong.false)).0

pub part_of-requires-2 : goal.part_of-requires-2
part_of-requires-2 c =
    let fits = size_fits c.args.format (length c.args.image.now - c.args.at) c.args.header.now (sym c.size_is_wrong.ensures ∙ c.if-size_is_wrong.false) in
    omega (arith, fits.0, fits.1, c.requires.room)
