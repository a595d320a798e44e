use Rattle.pi_base.specs.Lists.{Each}
use Rattle.store_model.specs.{StateFacts.IsDesc, Service.Notify.notify}
use Rattle.store_laws.proofs.Services.{all_keep}
use Rattle.store_plain.proofs.Rows.{row_with}
use Rattle.store_plain.proofs.pei_store.PlainStorePeiStore.notify.Goals as goal

pub returns : goal.returns
returns c = record { row = row_with (λ s. notify s c.args.list.now c.args.by) (λ s. Each (IsDesc s) c.args.list.now) c.args.self.now c.register.new.self c.register.result (λ s facts each. all_keep.notify s c.args.list.now c.args.by facts each c.ranges.by.fits) c.register.ensures }
