use Rattle.store_laws.proofs.Heads.{last_is_named, last_is_inside, first_is_pushed, last_is_pushed, items_are_pushed, first_is_popped, last_is_popped, places_are_kept, ends_are_kept}
use Rattle.store_laws.proofs.heap.link_laws.heads_moved.Goals as goal

pub returns : goal.returns
returns c =
    let law = c.little_endian.ensures.read in
    record {
      named = last_is_named;
      inside = last_is_inside;
      first_pushed = first_is_pushed;
      last_pushed = last_is_pushed;
      pushed = items_are_pushed;
      first_popped = first_is_popped law;
      last_popped = last_is_popped law;
      places = places_are_kept;
      ends = ends_are_kept;
    }
