use Rattle.std.proofs.Common.{subst}
use Rattle.store_model.specs.Service.Install.{place_of}
use Rattle.mem_store.specs.Serving.{After, RowsReplaced}
use Rattle.mem_store.proofs.{Kept.refused, Put.replaced_says, Put.sweep_of_reinstall, Saying.facts_of}
use Rattle.mem_store.proofs.pei_store.MemStorePeiStore.reinstall.Goals as goal

pub reinstall_found-requires : goal.reinstall_found-requires
reinstall_found-requires c =
    let s = c.requires.state.0 in
    let h = c.requires.state.1 in
    (s, (c.first_named-found.ensures.stands s h).memory, (c.requires.state.2, c.first_named-found.ensures.found s h))

pub returns-in-Ok : goal.returns-in-Ok
returns-in-Ok c = record {
  row = λ s h.
      let stands = c.first_named-found.ensures.stands s h.0 in
      let after = c.in-Ok.ensures s (stands.memory, (h.1, c.first_named-found.ensures.found s h.0)) in
      let keeps = c.services_keep_rows.ensures.reinstall s c.args.old c.args.new c.args.by (facts_of c.args.self.now.behind s h.0.memory) h.1.1 in
      let rows = subst (λ r. After (λ t. RowsReplaced s t (place_of s.ppis c.args.old.offset) c.args.new) r) after.1 keeps in
      let place = sweep_of_reinstall s c.args.old c.args.new c.args.by c.in-Ok.sweep after.0 after.1 in
      let row = c.row_of-row.ensures s h.0.memory h.1.1 in
      let index = c.first_named-found.new.self.index in (
        after.0,
        after.1,
        record {
          memory = after.2;
          index = replaced_says index c.put_other.new.self s after.0 c.in-Ok.sweep.ppi_at _ c.row_of-row.result c.args.new place row rows c.put_other.ensures.named c.put_other.ensures.rows stands.index;
        },
      );
}

pub returns-in-Err : goal.returns-in-Err
returns-in-Err c = record {
  row = λ s h.
      let stands = c.first_named-found.ensures.stands s h.0 in
      refused _ _ s c.in-Err.fault (c.in-Err.ensures s (stands.memory, (h.1, c.first_named-found.ensures.found s h.0))) stands.index;
}
