use Rattle.store_model.specs.Service.Install.{core_install}
use Rattle.store_laws.proofs.Services.{all_keep}
use Rattle.store_plain.proofs.Rows.{row_of}
use Rattle.store_plain.proofs.pei_store.PlainStorePeiStore.core_install.Goals as goal

pub returns : goal.returns
returns c = record { row = row_of (λ s. core_install s) c.args.self.now c.install_memory_ppi.new.self c.install_memory_ppi.result all_keep.core_install c.install_memory_ppi.ensures }
