use Rattle.std.proofs.Common.{sym, ◌∙◌, codes, bytes_eq}
use Rattle.line_words.specs.Number.{number_of}
use Rattle.gcd_map.proofs.CommandWords.{no_first, no_last}
use Rattle.gcd_map.proofs.command.short_command.Goals as goal

pub returns-in_err-base : goal.returns-in_err-base
returns-in_err-base c = c.from_residual.ensures ∙ no_first _ _ _ _ (sym c.in_err-base.ensures)

pub returns-in_err-len : goal.returns-in_err-len
returns-in_err-len c =
    let name = c.args.name.now in
    c.from_residual-in_err-len.ensures ∙ no_last (bytes_eq name (codes "free")) (bytes_eq name (codes "remove")) (number_of c.args.base.now) (number_of c.args.len.now) (sym c.in_err-len.ensures)
