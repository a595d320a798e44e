use Rattle.std.proofs.Common.{sym, ◌∙◌, arith}
use Rattle.explain_text.proofs.Names.{nothing, passes, no_longer, stops, ends}
use Rattle.explain_text.proofs.catalog.name.name_in.Goals as goal

pub units-init : goal.units-init
units-init c = nothing c.args.text.now

pub units-preserved : goal.units-preserved
units-preserved c = passes c.args.text.now c.units.rest.now c.in-len2-up.len_at_least (sym c.is_null.ensures ∙ c.if-is_null.false) c.units.invariant

pub overflow_sub-text : goal.overflow_sub-text
overflow_sub-text c = no_longer c.args.text.now c.units.rest.now c.units.invariant

pub returns-then-is_null : goal.returns-then-is_null
returns-then-is_null c =
    rw c.split_at.ensures.front (stops c.args.text.now c.units.rest.now c.in-len2-up.len_at_least (sym c.is_null.ensures ∙ c.if-is_null.true) c.units.invariant)

pub returns : goal.returns
returns c = ends c.args.text.now c.units.rest.now (omega (arith, c.in_default.len_below)) c.units.invariant
