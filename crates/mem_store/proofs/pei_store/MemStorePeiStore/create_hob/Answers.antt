use Rattle.hob_codec.specs.HobView.{hob_value}
use Rattle.store_model.specs.Service.Hob as H
use Rattle.std.proofs.Common.{refl}
use Rattle.mem_store.proofs.Kept.{kept}
use Rattle.mem_store.proofs.pei_store.MemStorePeiStore.create_hob.Goals as goal

pub returns : goal.returns
returns c = record {
  row = kept (λ s. H.create_hob s (hob_value c.args.hob.now)) c.args.self.now (record c.args.self.now { behind = c.make_hob.new.self }) c.make_hob.result refl
      (λ s. c.services_keep_rows.ensures.create_hob s (hob_value c.args.hob.now)) c.make_hob.ensures;
}
