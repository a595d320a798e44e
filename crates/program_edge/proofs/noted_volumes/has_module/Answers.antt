use Rattle.std.proofs.Common.{◌-◌, length, take, drop, arith}
use Rattle.program_edge.proofs.Passed.{found, front, not_found, nothing_left, passed}
use Rattle.program_edge.proofs.noted_volumes.has_module.Goals as goal

pub returns-then-number-first : goal.returns-then-number-first
returns-then-number-first c =
    let rest = c.volumes.rest.now in
    found c.args.volumes.now rest (take (length rest - 1) (drop 1 rest)) c.first-item.result c.args.phase c.args.volume c.volumes.number c.args.name c.has.result
    (front rest c.first-item.result c.in-len1-up.len_at_least c.first-item.is) (omega (arith, c.if-number-first.true)) c.has.ensures c.volumes.invariant

pub volumes-preserved : goal.volumes-preserved
volumes-preserved c =
    let rest = c.volumes.rest.now in
    passed c.args.volumes.now rest (take (length rest - 1) (drop 1 rest)) c.first-item.result c.args.phase c.args.volume c.volumes.number c.args.name
    (front rest c.first-item.result c.in-len1-up.len_at_least c.first-item.is) (omega (arith, c.if-number-first.false)) c.volumes.invariant

pub returns : goal.returns
returns c =
    not_found c.args.volumes.now c.volumes.rest.now c.args.phase c.args.volume c.volumes.number c.args.name (nothing_left c.volumes.rest.now c.in_default.len_below)
    c.volumes.invariant
