use Rattle.store_model.specs.Service.Memory.{pages}
use Rattle.store_laws.proofs.Services.{all_keep}
use Rattle.store_plain.proofs.Rows.{row_of}
use Rattle.store_plain.proofs.pei_store.PlainStorePeiStore.pages.Goals as goal

pub returns : goal.returns
returns c = record { row = row_of (λ s. pages s c.args.memory_type c.args.count) c.args.self.now c.take_pages.new.self c.take_pages.result (λ s facts. all_keep.pages s c.args.memory_type c.args.count facts c.ranges.memory_type.fits c.ranges.count.fits) c.take_pages.ensures }
