use Rattle.store_model.specs.Service.Descriptor as D
use Rattle.std.proofs.Common.{refl}
use Rattle.mem_store.proofs.Kept.{kept}
use Rattle.mem_store.proofs.pei_store.MemStorePeiStore.desc.Goals as goal

pub returns : goal.returns
returns c = record {
  row = kept (λ s. D.desc s c.args.kind c.args.guid c.args.arg) c.args.self.now (record c.args.self.now { behind = c.make_desc.new.self }) c.make_desc.result refl
      (λ s. c.services_keep_rows.ensures.desc s c.args.kind c.args.guid c.args.arg) c.make_desc.ensures;
}
