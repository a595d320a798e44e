use Rattle.std.proofs.Common.{◌∙◌, sym, fold}
use Rattle.store_model.specs.Service.Notify.{with_note}
use Rattle.heap_store.proofs.Installs.{can_note, can_queue_new, notify_row}
use Rattle.heap_store.proofs.store.HeapStore.register_counted.Goals as goal

pub any_ppi-requires : goal.any_ppi-requires
any_ppi-requires c = (c.requires.state.0, c.requires.state.1, c.requires.state.2.0)

pub is_full-requires : goal.is_full-requires
is_full-requires c = (c.requires.state.0, c.requires.state.1, tt)

pub sweep_over-sweep-requires-clause-state : goal.sweep_over-sweep-requires-clause-state
sweep_over-sweep-requires-clause-state c = (c.requires.state.0, c.requires.state.1, c.requires.state.2.0)

pub push_notes-requires : goal.push_notes-requires
push_notes-requires c =
    let s = c.requires.state.0 in
    let h = c.requires.state.1 in
    let descs = c.requires.state.2.0 in
    let none = sym (c.any_ppi.ensures s h descs) ∙ c.if-any_ppi.false in
    let room = sym (c.is_full.ensures s h tt) ∙ c.if-is_full.false in
    (s, h.linked, can_note s c.args.list.now c.args.pairs descs none room)

pub push_new_pairs-requires : goal.push_new_pairs-requires
push_new_pairs-requires c =
    let s = c.requires.state.0 in
    let h = c.requires.state.1 in
    let descs = c.requires.state.2.0 in
    let list = c.args.list.now in
    let pairs = c.args.pairs in
    let none = sym (c.any_ppi.ensures s h descs) ∙ c.if-any_ppi.false in
    let room = sym (c.is_full.ensures s h tt) ∙ c.if-is_full.false in
    let made = c.push_notes.ensures s h.linked (can_note s list pairs descs none room) in
    let stay = c.pairs_stay.ensures.notify s list c.args.by h.linked.heap_is.state descs in (
      fold (with_note c.args.by) s list,
      made.linked,
      can_queue_new c.args.self.now s (fold (with_note c.args.by) s list) list pairs c.push_notes.new.memory c.push_notes.new.heads descs none room
          c.requires.state.2.1 stay made,
    )

pub returns : goal.returns
returns c s both =
    let h = both.0 in
    let descs = both.1.0 in
    let list = c.args.list.now in
    let pairs = c.args.pairs in
    let none = sym (c.any_ppi.ensures s h descs) ∙ c.if-any_ppi.false in
    let room = sym (c.is_full.ensures s h tt) ∙ c.if-is_full.false in
    let count = both.1.1 in
    let made = c.push_notes.ensures s h.linked (can_note s list pairs descs none room) in
    let stay = c.pairs_stay.ensures.notify s list c.args.by h.linked.heap_is.state descs in
    let first = fold (with_note c.args.by) s list in
    let linked = c.push_new_pairs.ensures first made.linked (can_queue_new c.args.self.now s first list pairs c.push_notes.new.memory c.push_notes.new.heads descs none room count stay made) in
    notify_row c.args.self.now s list c.args.by pairs c.sweep_over-sweep.result c.push_notes.new.memory c.push_new_pairs.new.memory c.push_notes.new.heads c.push_new_pairs.new.heads h none room count
    (c.sweep_over-sweep.ensures s h descs) stay made linked
