use Rattle.std.proofs.Common.{◌≡◌, ◌++◌, length, drop, map}
use Rattle.pi_base.specs.Lists.{Each}
use Rattle.store_model.specs.{StateFacts.IsDesc, Service.OfEach, Service.Descriptor.guid_at, Service.Descriptor.offsets}
use Rattle.pei_core.proofs.guids.guids_of.Given as goal

-- the GUIDs that were read stand before those of the descriptors that are left
abbrev pub invariant-descriptors : goal.invariant-descriptors
invariant-descriptors g l = record {
  read : OfEach (g.M.PeiStore.stands_for l.store) (λ s. Each (IsDesc s) l.list) (λ s. map (guid_at s) (offsets l.list) ≡ l.guids.items ++ map (guid_at s) (offsets (drop l.descriptor-index l.list)));
  count : length l.guids.items ≡ l.descriptor-index;
}
