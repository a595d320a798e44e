use Rattle.std.proofs.Common.{refl, arith, true, false}
use Rattle.depex_code.specs.declared.depex.Depex.TheVariants as depex
use Rattle.pi_base.specs.declared.phase.Phase.TheVariants.{Dxe}
use Rattle.depex_code.proofs.Instructions.{instruction_takes}
use Rattle.depex_code.proofs.Outcomes.{lengths_of, named_is, tree_is, first_is}
use Rattle.depex_code.proofs.reading.driver_depex.Goals as goal

pub beside-requires-clause-part : goal.beside-requires-clause-part
beside-requires-clause-part c = (lengths_of _ _ _ c.requires).0

pub beside-requires-clause-near : goal.beside-requires-clause-near
beside-requires-clause-near c = omega (arith, (lengths_of _ _ _ c.requires).1)

pub beside-requires-in-After-clause-part : goal.beside-requires-in-After-clause-part
beside-requires-in-After-clause-part c = (lengths_of _ _ _ c.requires).0

pub beside-requires-in-After-clause-near : goal.beside-requires-in-After-clause-near
beside-requires-in-After-clause-near c = omega (arith, (lengths_of _ _ _ c.requires).1)

pub returns-in-Before-clause-read : goal.returns-in-Before-clause-read
returns-in-Before-clause-read c =
    (named_is (depex.Before c.in-Before.guid) c.args.first c.args.bytes.now c.args.rest.now c.beside.result (rw c.in-Before.is (record { spelled = refl; taken = refl })) c.requires c.beside.ensures).0

pub returns-in-Before-clause-refused : goal.returns-in-Before-clause-refused
returns-in-Before-clause-refused c =
    (named_is (depex.Before c.in-Before.guid) c.args.first c.args.bytes.now c.args.rest.now c.beside.result (rw c.in-Before.is (record { spelled = refl; taken = refl })) c.requires c.beside.ensures).1

pub returns-in-After-clause-read : goal.returns-in-After-clause-read
returns-in-After-clause-read c =
    (named_is (depex.After c.in-After.guid) c.args.first c.args.bytes.now c.args.rest.now c.beside-in-After.result (rw c.in-After.is (record { spelled = refl; taken = refl })) c.requires c.beside-in-After.ensures).0

pub returns-in-After-clause-refused : goal.returns-in-After-clause-refused
returns-in-After-clause-refused c =
    (named_is (depex.After c.in-After.guid) c.args.first c.args.bytes.now c.args.rest.now c.beside-in-After.result (rw c.in-After.is (record { spelled = refl; taken = refl })) c.requires c.beside-in-After.ensures).1

pub returns-in-Sor-clause-read : goal.returns-in-Sor-clause-read
returns-in-Sor-clause-read c =
    let took = instruction_takes c.args.bytes.now c.args.first c.args.rest.now c.requires in
    (tree_is Dxe true c.args.bytes.now c.args.rest.now c.tree_depex.result tt (rw c.in-Sor.is at took.0) tt c.tree_depex.ensures).0

pub returns-in-Sor-clause-refused : goal.returns-in-Sor-clause-refused
returns-in-Sor-clause-refused c =
    let took = instruction_takes c.args.bytes.now c.args.first c.args.rest.now c.requires in
    (tree_is Dxe true c.args.bytes.now c.args.rest.now c.tree_depex.result tt (rw c.in-Sor.is at took.0) tt c.tree_depex.ensures).1

pub returns-in-Of-clause-refused : goal.returns-in-Of-clause-refused
returns-in-Of-clause-refused c =
    (tree_is Dxe false c.args.bytes.now c.args.bytes.now c.tree_depex-in-Of.result tt refl
    (first_is c.args.bytes.now c.args.first c.args.rest.now c.requires (rw c.in-Of.is tt)) c.tree_depex-in-Of.ensures).1

pub returns-in-End-clause-refused : goal.returns-in-End-clause-refused
returns-in-End-clause-refused c =
    (tree_is Dxe false c.args.bytes.now c.args.bytes.now c.tree_depex-in-End.result tt refl
    (first_is c.args.bytes.now c.args.first c.args.rest.now c.requires (rw c.in-End.is tt)) c.tree_depex-in-End.ensures).1
