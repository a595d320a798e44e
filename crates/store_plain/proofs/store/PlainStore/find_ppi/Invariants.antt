use Rattle.std.proofs.Common.{◌≡◌, drop, filter, slice_get}
use Rattle.pi_base.specs.Guids.{same_guid}
use Rattle.store_model.specs.Service.Descriptor.{guid_at}
use Rattle.store_plain.specs.PlainState.{state_of}
use Rattle.store_plain.proofs.store.PlainStore.find_ppi.Given as goal

abbrev pub invariant-ppis : goal.invariant-ppis
invariant-ppis l =
    slice_get (filter (λ entry. same_guid (guid_at (state_of l.self) entry.descriptor) l.guid) (drop l.entry-index l.self.ppis.items)) l.left
    ≡ slice_get (filter (λ entry. same_guid (guid_at (state_of l.self) entry.descriptor) l.guid) l.self.ppis.items) l.n
