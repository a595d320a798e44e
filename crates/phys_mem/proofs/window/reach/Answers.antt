use Rattle.std.proofs.Common.{◌≡◌, ◌∙◌, arith, length, ◌+◌, ◌≤◌}
use Rattle.phys_mem.specs.Region.{in_zeros}
use Rattle.phys_mem.proofs.Amid.{reached}
use Rattle.phys_mem.proofs.window.reach.Goals as goal

pub returns-clause-same : goal.returns-clause-same
returns-clause-same c =
    let w = c.args.window.now.items in
    let len = c.args.len in
    let value = c.as_slice.ensures.value in
    let same : in_zeros len c.start_at-from.result w ≡ in_zeros len c.args.start w = rw value at c.start_at-from.ensures.same in
    let fits : c.start_at-from.result + length w ≤ len = rw value at c.start_at-from.ensures.fits in
    reached len c.args.start c.start_at-from.result c.args.place c.args.n c.min-first.result c.saturating_sub.result c.saturating_sub-2.result w c.grow_down.new.window.items c.grow_up.new.window.items
    fits c.requires.place same c.saturating_sub.ensures c.grow_down.ensures.items c.min-first.ensures (c.saturating_sub-2.ensures ∙ (omega (arith, c.len.ensures))) c.grow_up.ensures.items
