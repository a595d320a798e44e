use Rattle.std.proofs.Common.{option_map}
use Rattle.pi_base.specs.Field.{words_of}
use Rattle.explain_text.proofs.Modules.{three_added}
use Rattle.explain_text.proofs.catalog.lines.put_member.Goals as goal

pub returns : goal.returns
returns c = (
  option_map (λ name. words_of name.now) c.in_ok-title.title,
  c.in_ok-title.ensures,
  three_added c.args.out.now _ _ _ _ _ _ c.in_ok-put_module.ensures c.in_ok-put_part.ensures c.in_ok-put_part-2.ensures,
)
