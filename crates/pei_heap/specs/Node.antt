-- What a node says, by addresses.
-- Own.
use Rattle.std.specs.Prelude.{ℕ, ◌+◌}
use Rattle.store_laws.specs.Items.{Item}
use Rattle.pei_heap.specs.declared.links.node.Node.{Node}

abbrev pub node_of : ℕ → Item → Node
node_of base item = record { at = base + item.node; descriptor = item.descriptor; second = item.second; by = item.number }
