-- Numbers of 8 bytes, one after another, and those of a descriptor.
-- PI 1.8, volume 1, `EFI_PEI_PPI_DESCRIPTOR`.
use Rattle.std.specs.Prelude.{ℕ, List, [], ◌∷◌, flat_map}
use Rattle.pi_base.specs.Field.{little_bytes}
use Rattle.store_model.specs.{declared.state.DescriptorBody.DescriptorBody, HeapImage.kind_flags, HeapImage.guid_address}

abbrev pub words_bytes : List ℕ → List ℕ
words_bytes words = flat_map (λ n. little_bytes 8 n) words

abbrev pub descriptor_words : ℕ → ℕ → DescriptorBody → List ℕ
descriptor_words base place d = kind_flags d.kind ∷ guid_address base place d.stands ∷ d.number ∷ []
