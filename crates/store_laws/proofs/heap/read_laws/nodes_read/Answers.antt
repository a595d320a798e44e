use Rattle.store_laws.proofs.Nodes.{next_is_read, descriptor_is_read, second_is_read, number_is_read, nodes_are_inside}
use Rattle.store_laws.proofs.{Chains.chains_are_lists, Short.lists_are_short}
use Rattle.store_laws.proofs.heap.read_laws.nodes_read.Goals as goal

pub returns : goal.returns
returns c =
    let law = c.little_endian.ensures.read in
    record { next = next_is_read law; descriptor = descriptor_is_read law; second = second_is_read law; number = number_is_read law; inside = nodes_are_inside; chains = chains_are_lists law; short = lists_are_short }
