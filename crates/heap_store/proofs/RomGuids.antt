-- The GUID at an address in a volume.
use Rattle.std.proofs.Common.{◌≡◌, ◌∙◌, ℕ, List, length, take, Some, None, ap, arith, sym, refl, option_map, take_all}
use Rattle.pi_base.specs.declared.guid.Guid.{Guid}
use Rattle.phys_mem.specs.Regions.{bytes_at, rom_regions}
use Rattle.store_model.specs.{declared.store_handle.DescKind.DescKind, declared.store_handle.GuidFrom.TheVariants.At, StoreState.StoreState}
use Rattle.store_model.specs.{StateFacts.IsNumberOf, HeapImage.heap_image, MemoryReading.rom_bytes, Service.Descriptor.guid_from}
use Rattle.store_laws.specs.Mapped.{layout_of}
use Rattle.pei_heap.proofs.Volumes.{read_long, volumes_are}
use Rattle.heap_store.specs.{declared.store.HeapStore.HeapStore, HeapState.StandsFor, NewDescriptor.IsDescriptorOf}

found_at : (m : HeapStore) (s : StoreState) (address : ℕ) → StandsFor m s → bytes_at (rom_regions m.memory) address 16 ≡ rom_bytes s.board.roms address 16
found_at m s address h = volumes_are (layout_of s) (heap_image s) m.memory address 16 h.linked.heap_is.image.has

pub none_at : (m : HeapStore) (s : StoreState) (address : ℕ) → StandsFor m s → None ≡ bytes_at (rom_regions m.memory) address 16 → guid_from s (At address) ≡ None
none_at m s address h e = ap (option_map (λ bytes. (record { 0 = bytes }, Some address))) (sym (e ∙ found_at m s address h))

pub at_address : (m : HeapStore) (s : StoreState) (kind : DescKind) (address number : ℕ) (bytes : List ℕ) (guid : Guid) → StandsFor m s → Some bytes ≡ bytes_at (rom_regions m.memory) address 16 → guid.0 ≡ take 16 bytes
    → IsNumberOf kind number → IsDescriptorOf s kind (At address) number (record { kind = kind; guid = guid; stands = Some address; number = number })
at_address m s kind address number bytes guid h e g n =
    let long : length bytes ≡ 16 = read_long (rom_regions m.memory) address 16 bytes (sym e) in
    let whole : take 16 bytes ≡ bytes = take_all 16 bytes (omega (arith, long)) in
    let found : rom_bytes s.board.roms address 16 ≡ Some guid.0 = sym (e ∙ found_at m s address h) ∙ ap Some (sym (g ∙ whole)) in
    record {
      kind_is = refl;
      guid_is = ap (option_map (λ bytes. (record { 0 = bytes }, Some address))) found;
      number_is = refl;
      new = record { guid = found; number = n };
    }
