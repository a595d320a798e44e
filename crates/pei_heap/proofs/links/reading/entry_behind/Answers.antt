use Rattle.std.proofs.Common.{◌≡◌, ◌∙◌, subst, sym}
use Rattle.store_model.specs.declared.store_handle.EntryList.TheVariants.{Ppis, Callbacks, Dispatches}
use Rattle.store_model.specs.Service.Reading.{entry_behind}
use Rattle.pei_heap.specs.Walk.{IsBehind}
use Rattle.pei_heap.proofs.Tellings.{entry_left, pair_left}
use Rattle.pei_heap.proofs.links.reading.entry_behind.Goals as goal

pub returns-in-Ppis : goal.returns-in-Ppis
returns-in-Ppis c s h is =
    let behind = subst (λ list. IsBehind s list c.args.node c.node_behind-at.result) c.in-Ppis.is (c.node_behind-at.ensures s h is) in
    let told = c.tell_entry.ensures s Ppis behind.0 h.heap_is (record { entries = tt; here = behind.2 }) in
    subst (λ list. c.tell_entry.result ≡ entry_behind s list c.args.node) (sym c.in-Ppis.is) (told ∙ entry_left s Ppis c.args.node behind.0 tt behind.1)

pub returns-in-Callbacks : goal.returns-in-Callbacks
returns-in-Callbacks c s h is =
    let behind = subst (λ list. IsBehind s list c.args.node c.node_behind-at.result) c.in-Callbacks.is (c.node_behind-at.ensures s h is) in
    let told = c.tell_entry-in-Callbacks.ensures s Callbacks behind.0 h.heap_is (record { entries = tt; here = behind.2 }) in
    subst (λ list. c.tell_entry-in-Callbacks.result ≡ entry_behind s list c.args.node) (sym c.in-Callbacks.is) (told ∙ entry_left s Callbacks c.args.node behind.0 tt behind.1)

pub returns-in-Dispatches : goal.returns-in-Dispatches
returns-in-Dispatches c s h is =
    let behind = subst (λ list. IsBehind s list c.args.node c.node_behind-at.result) c.in-Dispatches.is (c.node_behind-at.ensures s h is) in
    let told = c.tell_entry-in-Dispatches.ensures s Dispatches behind.0 h.heap_is (record { entries = tt; here = behind.2 }) in
    subst (λ list. c.tell_entry-in-Dispatches.result ≡ entry_behind s list c.args.node) (sym c.in-Dispatches.is) (told ∙ entry_left s Dispatches c.args.node behind.0 tt behind.1)

pub returns-in-Pendings : goal.returns-in-Pendings
returns-in-Pendings c s h is =
    let behind = subst (λ list. IsBehind s list c.args.node c.node_behind-at.result) c.in-Pendings.is (c.node_behind-at.ensures s h is) in
    let told = c.tell_pair.ensures s behind.0 h.heap_is behind.2 in
    subst (λ list. c.tell_pair.result ≡ entry_behind s list c.args.node) (sym c.in-Pendings.is) (told ∙ pair_left s c.args.node behind.0 behind.1)
