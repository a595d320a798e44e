use Rattle.store_model.specs.Service.Descriptor.{desc}
use Rattle.store_laws.proofs.Services.{all_keep}
use Rattle.store_plain.proofs.Rows.{row_of}
use Rattle.store_plain.proofs.pei_store.PlainStorePeiStore.desc.Goals as goal

pub returns : goal.returns
returns c = record { row = row_of (λ s. desc s c.args.kind c.args.guid c.args.arg) c.args.self.now c.make_desc.new.self c.make_desc.result (λ s facts. all_keep.desc s c.args.kind c.args.guid c.args.arg facts (record { guid_is = c.make_desc.ensures.whole; number_is = c.requires.arg })) c.make_desc.ensures.answer }
