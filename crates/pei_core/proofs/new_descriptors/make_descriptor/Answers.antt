use Rattle.std.proofs.Common.{refl, subst, ◌+◌, slice_set}
use Rattle.boot_model.specs.declared.frame.Register.TheVariants.{DescriptorIn}
use Rattle.boot_model.specs.declared.line.CallName.TheVariants as C
use Rattle.boot_model.specs.declared.line.Extra.TheVariants as X
use Rattle.store_model.specs.Service.Descriptor.{desc}
use Rattle.boot_model.specs.PeiAction.{answer_reply, call_where, desc_argument, desc_reply}
use Rattle.pei_core.specs.Taken.{Does, IsTaken}
use Rattle.pei_core.proofs.{Made.Stands, Made.desc_stands, Changing.refused_none}
use Rattle.pei_core.proofs.Served.{given_where, made_taken, not_given, refused_taken}
use Rattle.pei_core.proofs.new_descriptors.make_descriptor.Goals as goal

pub desc-requires : goal.desc-requires
desc-requires g c = record {
  state = let h = c.requires.state in (h.0, h.1, tt);
  arg = c.in-Some.ensures.fits;
}

pub address-address-requires : goal.address-address-requires
address-address-requires g c = record {
  state =
      let h = c.requires.state in
      let mid = c.in-Ok.ensures.row h.0 h.1 in
      (mid.0, mid.2, (subst (Stands (λ made. made.offset) h.0) mid.1 (desc_stands h.0 c.kind_of-kind.result c.in-Some.guid c.in-Some.number)).0);
}

pub returns-in-None-clause-row : goal.returns-in-None-clause-row
returns-in-None-clause-row g c old h =
    let frame = c.args.frame.now in
    let kind = c.kind_of-kind.result in (
      old,
      subst (λ k. Does (call_where C.Desc (desc_argument frame k c.args.guid.now c.args.arg) (desc_reply old frame c.args.d k) old frame) old frame.registers c.refusal.result old) c.kind_of-kind.ensures
          (not_given C.Desc (desc_argument frame kind c.args.guid.now c.args.arg) (desc_reply old frame c.args.d kind) old frame c.refusal.result c.in-None.ensures.argument c.refusal.ensures),
      h.0,
    )

pub returns-in-Ok-clause-row : goal.returns-in-Ok-clause-row
returns-in-Ok-clause-row g c old h =
    let frame = c.args.frame.now in
    let kind = c.kind_of-kind.result in
    let mid = c.in-Ok.ensures.row old h.0 in (
      mid.0,
      subst (λ k. Does (call_where C.Desc (desc_argument frame k c.args.guid.now c.args.arg) (desc_reply old frame c.args.d k) old frame) old frame.registers c.told.result mid.0) c.kind_of-kind.ensures
          (subst (λ argument. Does (call_where C.Desc argument (desc_reply old frame c.args.d kind) old frame) old frame.registers c.told.result mid.0) c.in-Some.ensures.argument
          (made_taken C.Desc (desc old kind c.in-Some.guid c.in-Some.number) (λ made. made.offset) (λ made. DescriptorIn made) c.args.d old mid.0 frame.registers c.in-Ok.made c.address-address.result c.one.result c.told.result
          (desc_stands old kind c.in-Some.guid c.in-Some.number) mid.1 (λ place. c.address-address.ensures.row mid.0 mid.2 place) c.one.ensures c.told.ensures)),
      mid.2,
    )

pub returns-in-Err-clause-row : goal.returns-in-Err-clause-row
returns-in-Err-clause-row g c old h =
    let frame = c.args.frame.now in
    let kind = c.kind_of-kind.result in
    let mid = c.in-Err.ensures.row old h.0 in (
      mid.0,
      subst (λ k. IsTaken g.M.PeiStore.TAKES_MEMORY (call_where C.Desc (desc_argument frame k c.args.guid.now c.args.arg) (desc_reply old frame c.args.d k) old frame) old frame.registers c.refused.result mid.0) c.kind_of-kind.ensures
          (refused_taken g.M.PeiStore.TAKES_MEMORY C.Desc _ (desc old kind c.in-Some.guid c.in-Some.number) (λ service. answer_reply service (λ made. slice_set frame.registers c.args.d (DescriptorIn made)) (λ made. X.Number (old.base + made.offset)) old frame.registers) old mid.0 frame.registers c.in-Err.fault c.refused.result
          (given_where C.Desc _ (c.in-Some.guid, c.in-Some.number) (desc_reply old frame c.args.d kind) old frame c.in-Some.ensures.argument) (λ _. refl) mid.1 c.refused.ensures),
      mid.2,
    )

pub returns-in-Err-clause-changes : goal.returns-in-Err-clause-changes
returns-in-Err-clause-changes g c = refused_none c.in-Err.fault C.Desc c.refused.result c.refused.ensures
