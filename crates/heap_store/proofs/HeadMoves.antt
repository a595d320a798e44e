-- The ends of the lists, moved.
use Rattle.std.proofs.Common.{◌≡◌, ℕ, ap, sym, ◌∙◌}
use Rattle.store_model.specs.{declared.store_handle.EntryList.EntryList, StoreState.Range, StoreState.StoreState}
use Rattle.store_model.specs.Migration.{migrated_to, moved_number}
use Rattle.store_laws.specs.{Heads.last_address, Items.first_address}
use Rattle.pei_heap.specs.Linked.{AreEnds}
use Rattle.heap_store.specs.{declared.course.Course.Course, Ready.IsReady}
use Rattle.heap_store.specs.Linked.{links_of, address, first_of, last_of}
use Rattle.heap_store.proofs.Links.{items_old, items_new, first_is, last_is, first_low, last_low}
use Rattle.heap_store.proofs.Numbers.{address_moves}

pub ends_move : (s : StoreState) (to : Range) (course : Course) (list : EntryList) (head tail new_head new_tail : ℕ) → IsReady s to course → AreEnds s list head tail → new_head ≡ moved_number s to head → new_tail ≡ moved_number s to tail
    → AreEnds (migrated_to s to) list new_head new_tail
ends_move s to course list head tail new_head new_tail h ends a b =
    let links = links_of s list in
    record {
      first = a ∙ ap (moved_number s to) (ends.first ∙ ap (first_address s.base) (items_old s list) ∙ first_is s.base links)
          ∙ address_moves s to course (first_of links) h.way (first_low s list h.state)
          ∙ sym (ap (first_address to.base) (items_new s to list) ∙ first_is to.base links);
      last = b ∙ ap (moved_number s to) (ends.last ∙ ap (last_address s.base) (items_old s list) ∙ last_is s.base links)
          ∙ address_moves s to course (last_of links) h.way (last_low s list h.state)
          ∙ sym (ap (last_address to.base) (items_new s to list) ∙ last_is to.base links);
    }

-- the first node of a list in the new heap
pub head_at : (s : StoreState) (to : Range) (list : EntryList) (head tail : ℕ) → AreEnds (migrated_to s to) list head tail → head ≡ address to.base (first_of (links_of s list))
head_at s to list head tail ends = ends.first ∙ ap (first_address to.base) (items_new s to list) ∙ first_is to.base (links_of s list)
