use Rattle.hob_codec.specs.HobView.{hob_value}
use Rattle.store_plain.proofs.Rows.{hob_row}
use Rattle.store_plain.proofs.pei_store.PlainStorePeiStore.create_hob.Goals as goal

pub returns : goal.returns
returns c = record { row = hob_row (hob_value c.args.hob.now) c.args.self.now c.make_hob.new.self c.make_hob.result c.requires.hob c.make_hob.ensures.fields c.make_hob.ensures.answer }
