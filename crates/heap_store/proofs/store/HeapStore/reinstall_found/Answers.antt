use Rattle.std.proofs.Common.{◌≡◌, ◌∙◌, [], ◌∷◌, length, arith, ap, sym, subst}
use Rattle.pi_base.specs.Lists.{Each}
use Rattle.store_model.specs.{StateFacts.IsDesc, Service.Install.install_pairs}
use Rattle.pei_heap.specs.{Pairs.CanQueueAll, Pairs.queued, Linked.IsLinked, Replaced.IsFound, Replaced.with_renamed}
use Rattle.pei_heap.proofs.Ends.{few_entries}
use Rattle.heap_store.proofs.{HandedIn.new_ppi, Installs.can_requeue, Installs.reinstall_row}
use Rattle.heap_store.proofs.store.HeapStore.reinstall_found.Goals as goal

pub is_ppi-requires : goal.is_ppi-requires
is_ppi-requires c = (c.requires.0, c.requires.1, c.requires.2.0.1)

pub count_pairs-pairs-requires-clause-state : goal.count_pairs-pairs-requires-clause-state
count_pairs-pairs-requires-clause-state c =
    let s = c.requires.0 in
    let one : c.as_slice-list.result.now ≡ c.args.new ∷ [] = c.as_slice-list.ensures in
    (s, c.requires.1.linked, subst (Each (IsDesc s)) (sym one) (c.requires.2.0.1, tt))

pub is_full-requires : goal.is_full-requires
is_full-requires c = (c.requires.0, c.requires.1, tt)

pub sweep_at-sweep-requires : goal.sweep_at-sweep-requires
sweep_at-sweep-requires c =
    let s = c.requires.0 in
    let h = c.requires.1 in
    let found = subst (IsFound s c.args.old) c.in-Some.is c.requires.2.1 in
    let few = few_entries s c.entries_are_told.ensures h.linked.heap_is.state in
    let a = few.0 in
    let b = found.inside in
    omega (arith, a, b)

pub rename-requires : goal.rename-requires
rename-requires c =
    let s = c.requires.0 in
    let h = c.requires.1 in
    let old = c.args.old in
    let new = c.args.new in
    let is = c.requires.2.0 in
    let ppi = sym (c.is_ppi.ensures s h is.1) ∙ c.if-not-is_ppi.false in
    (s, old, h.linked, subst (IsFound s old) c.in-Some.is c.requires.2.1, new_ppi s new is.1 ppi)

pub push_pairs-requires : goal.push_pairs-requires
push_pairs-requires c =
    let s = c.requires.0 in
    let h = c.requires.1 in
    let old = c.args.old in
    let new = c.args.new in
    let is = c.requires.2.0 in
    let one : c.as_slice-list.result.now ≡ new ∷ [] = c.as_slice-list.ensures in
    let ppi = sym (c.is_ppi.ensures s h is.1) ∙ c.if-not-is_ppi.false in
    let at = new_ppi s new is.1 ppi in
    let room = sym (c.is_full.ensures s h tt) ∙ c.if-is_full.false in
    let count = c.count_pairs-pairs.ensures s h.linked (subst (Each (IsDesc s)) (sym one) (is.1, tt)) ∙ ap (λ l. length (install_pairs s l)) one in
    let linked = c.rename.ensures s old h.linked (subst (IsFound s old) c.in-Some.is c.requires.2.1) at in
    (with_renamed s old new, linked, subst (λ l. CanQueueAll (with_renamed s old new) l c.count_pairs-pairs.result) (sym one) (can_requeue s old new c.count_pairs-pairs.result at room count))

pub returns : goal.returns
returns c s both =
    let h = both.0 in
    let is = both.1.0 in
    let old = c.args.old in
    let new = c.args.new in
    let one : c.as_slice-list.result.now ≡ new ∷ [] = c.as_slice-list.ensures in
    let ppi = sym (c.is_ppi.ensures s h is.1) ∙ c.if-not-is_ppi.false in
    let at = new_ppi s new is.1 ppi in
    let room = sym (c.is_full.ensures s h tt) ∙ c.if-is_full.false in
    let count = c.count_pairs-pairs.ensures s h.linked (subst (Each (IsDesc s)) (sym one) (is.1, tt)) ∙ ap (λ l. length (install_pairs s l)) one in
    let found = subst (IsFound s old) c.in-Some.is both.1.1 in
    let linked = c.rename.ensures s old h.linked found at in
    let can = subst (λ l. CanQueueAll (with_renamed s old new) l c.count_pairs-pairs.result) (sym one) (can_requeue s old new c.count_pairs-pairs.result at room count) in
    let done = c.push_pairs.ensures (with_renamed s old new) linked can in
    let here = subst (λ l. IsLinked c.args.self.now.heap c.push_pairs.new.memory c.push_pairs.new.heads (queued c.args.by (with_renamed s old new) (install_pairs (with_renamed s old new) l))) one done in
    reinstall_row c.args.self.now s old new c.args.by c.count_pairs-pairs.result c.sweep_at-sweep.result c.push_pairs.new.memory c.push_pairs.new.heads h ppi found.installed room count
    (c.sweep_at-sweep.ensures.place s old h found.place_is) here
