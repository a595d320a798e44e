use Rattle.std.proofs.Common.{◌∙◌, sym, fold}
use Rattle.store_model.specs.Service.Install.{with_ppi}
use Rattle.heap_store.proofs.Installs.{can_make, can_queue, install_row}
use Rattle.heap_store.proofs.store.HeapStore.install_counted.Goals as goal

pub are_ppis-requires : goal.are_ppis-requires
are_ppis-requires c = (c.requires.state.0, c.requires.state.1, c.requires.state.2.0)

pub is_full-requires : goal.is_full-requires
is_full-requires c = (c.requires.state.0, c.requires.state.1, tt)

pub sweep_behind-sweep-requires-clause-state : goal.sweep_behind-sweep-requires-clause-state
sweep_behind-sweep-requires-clause-state c = (c.requires.state.0, c.requires.state.1, tt)

pub push_ppis-requires : goal.push_ppis-requires
push_ppis-requires c =
    let s = c.requires.state.0 in
    let h = c.requires.state.1 in
    let descs = c.requires.state.2.0 in
    let all = sym (c.are_ppis.ensures s h descs) ∙ c.if-not-are_ppis.false in
    let room = sym (c.is_full.ensures s h tt) ∙ c.if-is_full.false in
    (s, h.linked, can_make s c.args.list.now c.args.pairs descs all room)

pub push_pairs-requires : goal.push_pairs-requires
push_pairs-requires c =
    let s = c.requires.state.0 in
    let h = c.requires.state.1 in
    let descs = c.requires.state.2.0 in
    let list = c.args.list.now in
    let pairs = c.args.pairs in
    let all = sym (c.are_ppis.ensures s h descs) ∙ c.if-not-are_ppis.false in
    let room = sym (c.is_full.ensures s h tt) ∙ c.if-is_full.false in
    let made = c.push_ppis.ensures s h.linked (can_make s list pairs descs all room) in
    let stay = c.pairs_stay.ensures.install s list c.args.by h.linked.heap_is.state descs in (
      fold (with_ppi c.args.by) s list,
      made.linked,
      can_queue c.args.self.now s (fold (with_ppi c.args.by) s list) list pairs c.push_ppis.new.memory c.push_ppis.new.heads descs all room
          c.requires.state.2.1 stay made,
    )

pub returns : goal.returns
returns c s both =
    let h = both.0 in
    let descs = both.1.0 in
    let list = c.args.list.now in
    let pairs = c.args.pairs in
    let all = sym (c.are_ppis.ensures s h descs) ∙ c.if-not-are_ppis.false in
    let room = sym (c.is_full.ensures s h tt) ∙ c.if-is_full.false in
    let count = both.1.1 in
    let made = c.push_ppis.ensures s h.linked (can_make s list pairs descs all room) in
    let stay = c.pairs_stay.ensures.install s list c.args.by h.linked.heap_is.state descs in
    let first = fold (with_ppi c.args.by) s list in
    let linked = c.push_pairs.ensures first made.linked (can_queue c.args.self.now s first list pairs c.push_ppis.new.memory c.push_ppis.new.heads descs all room count stay made) in
    install_row c.args.self.now s list c.args.by pairs c.sweep_behind-sweep.result c.push_ppis.new.memory c.push_pairs.new.memory c.push_ppis.new.heads c.push_pairs.new.heads h all room count
    (c.sweep_behind-sweep.ensures s h tt) stay made linked
