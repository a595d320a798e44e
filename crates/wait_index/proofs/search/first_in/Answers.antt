use Rattle.std.proofs.Common.{◌≡◌, ◌≤◌, ◌/◌, false, true, arith, length}
use Rattle.wait_index.specs.PlaceFlags.{either}
use Rattle.wait_index.proofs.Flags.{none_at_end, none_in_block, none_more}
use Rattle.wait_index.proofs.search.first_in.Goals as goal

pub places-preserved-then-not-in_either : goal.places-preserved-then-not-in_either
places-preserved-then-not-in_either c =
    let none : either c.args.both c.args.blocks.now c.args.more_blocks.now (c.places.at / 64) ≡ false = cc in
    record {
      on = omega (arith, c.places.invariant.on);
      none = none_in_block c.args.both c.args.flags.now c.args.blocks.now c.args.more.now c.args.more_blocks.now c.args.from c.places.at c.requires.marked c.requires.more_marked none c.places.invariant.none;
    }

pub places-preserved : goal.places-preserved
places-preserved c =
    let here : either c.args.both c.args.flags.now c.args.more.now c.places.at ≡ false = cc in
    record {
      on = omega (arith, c.places.invariant.on);
      none = none_more (either c.args.both c.args.flags.now c.args.more.now) c.args.from c.places.at c.places.invariant.none here;
    }

pub returns-then-in_either : goal.returns-then-in_either
returns-then-in_either c =
    let here : either c.args.both c.args.flags.now c.args.more.now c.places.at ≡ true = cc in
    (c.places.invariant.on, here, c.places.invariant.none)

pub returns : goal.returns
returns c =
    let end : length c.args.flags.now ≤ c.places.at = omega arith in
    none_at_end c.args.both c.args.flags.now c.args.more.now c.args.from c.places.at c.requires.as_long end c.places.invariant.none
