use Rattle.std.proofs.Common.{◌≤◌, ◌++◌, length, ap, sym, ◌∙◌, arith, append-nil, map}
use Rattle.std.proofs.Math.ListN.{drop_of_length-le}
use Rattle.store_model.specs.{Service.Descriptor.guid_at, Service.Descriptor.offsets, StateFacts.IsDesc}
use Rattle.pei_core.proofs.Each.{each_index}
use Rattle.pei_core.proofs.guids.guids_of.Goals as goal

pub descriptor-requires : goal.descriptor-requires
descriptor-requires g c = record {
  state = let h = c.requires.state in (h.0, h.1, each_index (IsDesc h.0) c.args.list.now c.descriptors.descriptor-index (record { offset = 0 }) c.descriptors-test.true h.2);
}

pub returns : goal.returns
returns g c s stands each =
    let past : length c.args.list.now ≤ c.descriptors.descriptor-index = omega (arith, c.descriptors-test.false) in
    let items = c.descriptors.guids.items in
    sym (c.descriptors.invariant.read s stands each ∙ ap (λ list. items ++ map (guid_at s) (offsets list)) (drop_of_length-le c.args.list.now past) ∙ append-nil items)
