use Rattle.std.proofs.Common.{sym, ◌∙◌, codes, bytes_eq}
use Rattle.line_words.specs.Number.{number_of}
use Rattle.gcd_map.specs.CommandText.{kind_named, align_of}
use Rattle.gcd_map.proofs.CommandWords.{no_kind, no_number, no_len}
use Rattle.gcd_map.proofs.command.long_command.Goals as goal

pub returns-in_err-kind : goal.returns-in_err-kind
returns-in_err-kind c =
    let name = c.args.name.now in
    let second = c.args.second.now in
    c.from_residual.ensures ∙ no_kind (bytes_eq name (codes "add")) (bytes_eq name (codes "allocate")) (bytes_eq name (codes "top")) (kind_named c.args.kind.now)
    (number_of second) (align_of second) (number_of c.args.len.now) (sym c.in_err-kind.ensures)

pub returns-in_err-base : goal.returns-in_err-base
returns-in_err-base c =
    let name = c.args.name.now in
    c.from_residual-in_err-base.ensures ∙ no_number (bytes_eq name (codes "add")) (bytes_eq name (codes "allocate")) (bytes_eq name (codes "top")) (kind_named c.args.kind.now)
    (number_of c.args.second.now) (number_of c.args.len.now) (sym c.in_err-base.ensures)

pub returns-in_err-len : goal.returns-in_err-len
returns-in_err-len c =
    let name = c.args.name.now in
    let second = c.args.second.now in
    c.from_residual-in_err-len.ensures ∙ no_len (bytes_eq name (codes "add")) (bytes_eq name (codes "allocate")) (bytes_eq name (codes "top")) (kind_named c.args.kind.now)
    (number_of second) (align_of second) (number_of c.args.len.now) (sym c.in_err-len.ensures)
