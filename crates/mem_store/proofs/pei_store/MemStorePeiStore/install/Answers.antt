use Rattle.std.proofs.Common.{subst, sym}
use Rattle.mem_store.specs.{Serving.After, Serving.RowsInstalled, Indexed.Says}
use Rattle.mem_store.proofs.{Kept.refused, Put.installed_says, Saying.facts_of}
use Rattle.mem_store.proofs.pei_store.MemStorePeiStore.install.Goals as goal

pub put_ppis-requires : goal.put_ppis-requires
put_ppis-requires c =
    let s = c.requires.state.0 in
    let h = c.requires.state.1 in
    let descs = c.requires.state.2 in
    let after = c.in-Ok.ensures.row s (h, descs) in
    let keeps = c.services_keep_rows.ensures.install s c.args.list.now c.args.by (facts_of c.args.self.now.behind s h.memory) descs in
    let rows = subst (λ r. After (λ t. RowsInstalled s t c.args.list.now) r) after.1 keeps in
    (after.0, after.2, rows.descs.there)

pub returns-in-Ok : goal.returns-in-Ok
returns-in-Ok c = record {
  row = λ s h.
      let after = c.in-Ok.ensures.row s h in
      let keeps = c.services_keep_rows.ensures.install s c.args.list.now c.args.by (facts_of c.args.self.now.behind s h.0.memory) h.1 in
      let rows = subst (λ r. After (λ t. RowsInstalled s t c.args.list.now) r) after.1 keeps in
      let become = c.put_ppis.ensures.rows after.0 after.2 rows.descs.there in
      let says = subst (λ i. Says i s) (sym c.in-Ok.ensures.index) h.0.index in
      (after.0, after.1, record { memory = after.2; index = installed_says c.install_behind.new.self.index c.put_ppis.new.self s after.0 c.args.list.now rows c.put_ppis.ensures.named become says });
}

pub returns-in-Err : goal.returns-in-Err
returns-in-Err c = record { row = λ s h. refused _ _ s c.in-Err.fault (c.in-Err.ensures.row s h) (subst (λ i. Says i s) (sym c.in-Err.ensures.index) h.0.index) }
