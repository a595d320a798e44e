use Rattle.store_model.specs.Service.Memory.{set_memory}
use Rattle.store_laws.proofs.Services.{all_keep}
use Rattle.store_plain.proofs.Rows.{row_of}
use Rattle.store_plain.proofs.pei_store.PlainStorePeiStore.set_memory.Goals as goal

pub returns : goal.returns
returns c = record { row = row_of (λ s. set_memory s c.args.begin c.args.len) c.args.self.now c.plan_memory.new.self c.plan_memory.result (λ s facts. all_keep.set_memory s c.args.begin c.args.len facts) c.plan_memory.ensures }
