use Rattle.std.proofs.Common.{◌-◌, length, take, drop, arith}
use Rattle.program_edge.proofs.{Drivers.drivers_here, Drivers.drivers_later, Drivers.drivers_nowhere, Passed.front, Passed.nothing_left}
use Rattle.program_edge.proofs.boot_story.drivers_in.Goals as goal

pub returns-then-number-first : goal.returns-then-number-first
returns-then-number-first c =
    let rest = c.volumes.rest.now in
    drivers_here c.args.volumes.now rest (take (length rest - 1) (drop 1 rest)) c.first-item.result c.args.volume c.volumes.number c.count_equal.result
    (front rest c.first-item.result c.in-len1-up.len_at_least c.first-item.is) (omega (arith, c.if-number-first.true)) c.count_equal.ensures c.volumes.invariant

pub volumes-preserved : goal.volumes-preserved
volumes-preserved c =
    let rest = c.volumes.rest.now in
    drivers_later c.args.volumes.now rest (take (length rest - 1) (drop 1 rest)) c.first-item.result c.args.volume c.volumes.number
    (front rest c.first-item.result c.in-len1-up.len_at_least c.first-item.is) (omega (arith, c.if-number-first.false)) c.volumes.invariant

pub returns : goal.returns
returns c =
    drivers_nowhere c.args.volumes.now c.volumes.rest.now c.args.volume c.volumes.number (nothing_left c.volumes.rest.now c.in_default.len_below) c.volumes.invariant
