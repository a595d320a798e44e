use Rattle.std.proofs.Common.{◌≡◌, [], List, true, get_or, take, subst, sym}
use Rattle.std.proofs.lemmas.List.{take_more}
use Rattle.pi_base.specs.declared.guid.Guid.{Guid}
use Rattle.pei_dispatch.specs.Noted.{IsNoted}
use Rattle.pei_dispatch.proofs.Notes.{each_guid, noted_none, noted_one, take_whole}
use Rattle.pei_dispatch.proofs.change.put_in.Goals as goal

pub guids-init : goal.guids-init
guids-init c = record {
  of_catalog = λ catalog is. is;
  noted = λ catalog has before is all known. noted_none catalog has before c.args.index.now is known;
}

pub guids-preserved : goal.guids-preserved
guids-preserved c =
    let none : Guid = record { 0 = [] } in
    let guids = c.args.guids.now in
    let i = c.guids.guid-index in
    let next = get_or guids i none in
    record {
      of_catalog = λ catalog is. c.changed.ensures.index catalog (c.guids.invariant.of_catalog catalog is);
      noted = λ catalog has before is all known.
          let mid = c.guids.invariant.of_catalog catalog is in
          subst (λ (xs : List Guid). IsNoted catalog has before xs c.args.index.now c.changed.new.self) (sym (take_more guids i none c.guids-test.true))
          (noted_one catalog has true before (take i guids) next c.args.index.now c.guids.index c.changed.new.self (c.guids.invariant.noted catalog has before is all known)
          (each_guid (λ guid. has guid ≡ true) guids i none all c.guids-test.true) (c.changed.ensures.index catalog mid) (c.changed.ensures.set catalog mid) (c.changed.ensures.owed catalog mid) c.changed.ensures.known);
    }

pub returns : goal.returns
returns c catalog has before is all known =
    subst (λ (xs : List Guid). IsNoted catalog has before xs c.args.index.now c.guids.index) (take_whole c.args.guids.now c.guids.guid-index c.guids-test.false) (c.guids.invariant.noted catalog has before is all known)
