use Rattle.std.proofs.Common.{refl}
use Rattle.pi_base.proofs.Fields.{put_front}
use Rattle.pi_base.proofs.field.put_u24.Goals as goal

pub returns : goal.returns
returns c = put_front c.args.at 3 c.args.bytes.now c.write_u24.new.buf _ refl c.requires.room c.write_u24.ensures
