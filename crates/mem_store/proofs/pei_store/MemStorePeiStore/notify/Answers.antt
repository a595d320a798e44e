use Rattle.std.proofs.Common.{subst, sym}
use Rattle.mem_store.specs.{Serving.After, Serving.RowsNotified, Indexed.Says}
use Rattle.mem_store.proofs.{Kept.refused, Put.notified_says, Saying.facts_of}
use Rattle.mem_store.proofs.pei_store.MemStorePeiStore.notify.Goals as goal

pub put_notifications-requires : goal.put_notifications-requires
put_notifications-requires c =
    let s = c.requires.state.0 in
    let h = c.requires.state.1 in
    let descs = c.requires.state.2 in
    let after = c.in-Ok.ensures.row s (h, descs) in
    let keeps = c.services_keep_rows.ensures.notify s c.args.list.now c.args.by (facts_of c.args.self.now.behind s h.memory) descs in
    let rows = subst (λ r. After (λ t. RowsNotified s t c.args.list.now) r) after.1 keeps in
    (after.0, after.2, rows.descs.there)

pub returns-in-Ok : goal.returns-in-Ok
returns-in-Ok c = record {
  row = λ s h.
      let after = c.in-Ok.ensures.row s h in
      let keeps = c.services_keep_rows.ensures.notify s c.args.list.now c.args.by (facts_of c.args.self.now.behind s h.0.memory) h.1 in
      let rows = subst (λ r. After (λ t. RowsNotified s t c.args.list.now) r) after.1 keeps in
      let become = c.put_notifications.ensures.rows after.0 after.2 rows.descs.there in
      let says = subst (λ i. Says i s) (sym c.in-Ok.ensures.index) h.0.index in
      (after.0, after.1, record { memory = after.2; index = notified_says c.register_behind.new.self.index c.put_notifications.new.self s after.0 c.args.list.now rows c.put_notifications.ensures.named become says });
}

pub returns-in-Err : goal.returns-in-Err
returns-in-Err c = record { row = λ s h. refused _ _ s c.in-Err.fault (c.in-Err.ensures.row s h) (subst (λ i. Says i s) (sym c.in-Err.ensures.index) h.0.index) }
