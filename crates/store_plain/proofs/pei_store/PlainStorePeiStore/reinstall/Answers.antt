use Rattle.store_model.specs.{StateFacts.IsDesc, Service.Install.reinstall}
use Rattle.store_laws.proofs.Services.{all_keep}
use Rattle.store_plain.proofs.Rows.{row_with}
use Rattle.store_plain.proofs.pei_store.PlainStorePeiStore.reinstall.Goals as goal

pub returns : goal.returns
returns c = record { row = row_with (λ s. reinstall s c.args.old c.args.new c.args.by) (λ s. IsDesc s c.args.old × IsDesc s c.args.new) c.args.self.now c.reinstall_ppi.new.self c.reinstall_ppi.result (λ s facts is. all_keep.reinstall s c.args.old c.args.new c.args.by facts is.0 is.1 c.ranges.by.fits) c.reinstall_ppi.ensures }
