use Rattle.hob_codec.specs.HobView.{hob_value}
use Rattle.hob_codec.proofs.FieldLemmas.{encoded_is}
use Rattle.hob_codec.proofs.encode.encode_into.Goals as goal

pub returns : goal.returns
returns c = encoded_is (hob_value c.args.hob.now) c.kind_of.result _ c.put_header.new.out c.put_body.new.out c.requires c.kind_of.ensures c.put_header.ensures c.put_body.ensures
