use Rattle.std.proofs.Common.{◌≡◌, Bool, List, [], ◌∷◌, Some, IsSome, ◌<◌, ◌≤◌, length, slice_index_or, arith, sym, ap, ◌∙◌}
use Rattle.pi_base.specs.declared.guid.Guid.{Guid}
use Rattle.depex_code.specs.{Tree.postfix, declared.opcode.Opcode.Opcode}
use Rattle.explain_text.specs.declared.ways.side.Side.{Side}
use Rattle.explain_text.specs.Sides.{side_of, sides_after, sides_behind}
use Rattle.explain_text.proofs.SidesInOrder.{has_operands, tree_alone}
use Rattle.explain_text.proofs.ways.sides.side_of.Goals as goal

-- the opcode that comes next has its operands
next_has : (has : Guid → Bool) (blank : Opcode) (code : List Opcode) (sides end : List Side) → 1 ≤ length code → sides_behind has code sides ≡ Some end → IsSome (sides_after has (slice_index_or code 0 blank) sides)
next_has has blank [] sides end more e = absurd (omega (arith, more))
next_has has blank (opcode ∷ code) sides end more e = has_operands has opcode code sides end e

-- where no opcode is left, the parts are those behind them
are_last : (has : Guid → Bool) (code : List Opcode) (sides end : List Side) → length code < 1 → sides_behind has code sides ≡ Some end → sides ≡ end
are_last has [] sides end none e = cc
are_last has (opcode ∷ code) sides end none e = absurd (omega (arith, none))

pub opcodes-init : goal.opcodes-init
opcodes-init g c =
    let has = g.G.GuidSet.has_guid c.args.set.now in
    ap (λ code. sides_behind has code c.new-sides.result) c.code-rest.ensures ∙ ap (sides_behind has (postfix c.args.tree.now)) c.new-sides.ensures ∙ tree_alone has c.args.tree.now

pub apply-requires-clause-operands : goal.apply-requires-clause-operands
apply-requires-clause-operands g c = next_has (g.G.GuidSet.has_guid c.args.set.now) _ c.opcodes.rest.now c.opcodes.sides _ c.in-len1-up.len_at_least c.opcodes.invariant

pub pop-requires : goal.pop-requires
pop-requires g c none =
    let has = g.G.GuidSet.has_guid c.args.set.now in
    let e : [] ≡ side_of has c.args.tree.now ∷ [] = sym none ∙ are_last has c.opcodes.rest.now c.opcodes.sides (side_of has c.args.tree.now ∷ []) c.in_default.len_below c.opcodes.invariant in
    cc

pub returns : goal.returns
returns g c =
    let has = g.G.GuidSet.has_guid c.args.set.now in
    let e : c.pop.result ∷ c.pop.new.self ≡ side_of has c.args.tree.now ∷ [] = sym c.pop.ensures ∙ are_last has c.opcodes.rest.now c.opcodes.sides (side_of has c.args.tree.now ∷ []) c.in_default.len_below c.opcodes.invariant in
    cc
