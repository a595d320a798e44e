use Rattle.std.proofs.Common.{◌≡◌, ◌∙◌, Some, ap, arith, sym, subst}
use Rattle.pi_base.specs.declared.guid.Guid.{Guid}
use Rattle.store_model.specs.{declared.store_handle.GuidFrom.GuidFrom, Service.Descriptor.guid_from}
use Rattle.heap_store.specs.NewDescriptor.{IsDescriptorOf}
use Rattle.phys_mem.specs.Regions.{bytes_at, rom_regions}
use Rattle.pei_heap.proofs.Volumes.{read_long}
use Rattle.heap_store.proofs.RomGuids.{at_address, none_at}
use Rattle.heap_store.proofs.store.HeapStore.descriptor_from.Goals as goal

pub at-requires : goal.at-requires
at-requires c =
    let told : Some c.in-Some.bytes.now ≡ bytes_at (rom_regions c.args.self.now.memory) c.in-At.address 16 = c.in-Some.ensures in
    let long = read_long (rom_regions c.args.self.now.memory) c.in-At.address 16 c.in-Some.bytes.now (sym told) in
    omega (arith, long)

pub returns-in-None : goal.returns-in-None
returns-in-None c s h any = ap (guid_from s) c.in-At.is ∙ none_at c.args.self.now s c.in-At.address h c.in-None.ensures

pub returns-in-Some : goal.returns-in-Some
returns-in-Some c s h any =
    let made = at_address c.args.self.now s c.args.kind c.in-At.address c.args.number c.in-Some.bytes.now c.at.result h c.in-Some.ensures (ap (λ (g : Guid). g.0) c.at.ensures) c.requires.number in
    subst (λ (g : GuidFrom). IsDescriptorOf s c.args.kind g c.args.number (record { kind = c.args.kind; guid = c.at.result; stands = Some c.in-At.address; number = c.args.number })) (sym c.in-At.is) made
