-- The bytes of three numbers, and the three with which a node and a descriptor begin.
-- Own.
use Rattle.std.specs.Prelude.{ℕ, List, ◌++◌}
use Rattle.pi_base.specs.Field.{little_bytes}
use Rattle.store_model.specs.{declared.state.DescriptorBody.DescriptorBody, declared.store_handle.DescKind.DescKind}
use Rattle.store_model.specs.{StoreState.Range, StoreState.StoreState, Migration.moved_number, Migration.moved_value}
use Rattle.store_model.specs.HeapImage.{Links, kind_flags, guid_address}
use Rattle.heap_store.specs.declared.words.Words.{Words}

unfoldable pub words_bytes : Words → List ℕ
words_bytes words = little_bytes 8 words.first ++ little_bytes 8 words.second ++ little_bytes 8 words.third

abbrev pub descriptor_words : ℕ → ℕ → DescriptorBody → Words
descriptor_words base place d = record { first = kind_flags d.kind; second = guid_address base place d.stands; third = d.number }

abbrev pub links_words : Links → Words
links_words links = record { first = links.next; second = links.descriptor; third = links.second }

-- the three numbers of a node and of a descriptor after the move
abbrev pub shifted_node : StoreState → Range → Words → Words
shifted_node s to words = record {
  first = moved_number s to words.first;
  second = moved_number s to words.second;
  third = moved_number s to words.third;
}

abbrev pub shifted_descriptor : StoreState → Range → DescKind → Words → Words
shifted_descriptor s to kind words =
    record { first = words.first; second = moved_number s to words.second; third = moved_value s to kind words.third }
