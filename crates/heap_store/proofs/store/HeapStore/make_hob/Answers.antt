use Rattle.hob_codec.specs.HobView.{hob_value}
use Rattle.store_model.specs.Service.Hob.{create_hob}
use Rattle.heap_store.proofs.Rows.{hob_adds, row_some}
use Rattle.heap_store.proofs.store.HeapStore.make_hob.Goals as goal

pub returns-in-Some : goal.returns-in-Some
returns-in-Some c =
    row_some (λ s. create_hob s (hob_value c.args.hob.now)) c.args.self.now c.create.new.memory c.in-Some.address (λ s. hob_adds s (hob_value c.args.hob.now)) c.in-Some.ensures
