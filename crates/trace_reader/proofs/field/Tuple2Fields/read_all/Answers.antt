use Rattle.std.proofs.Common.{◌∙◌, sym}
use Rattle.trace_reader.proofs.Splits.{cut_front, cut_back, tail_of}
use Rattle.trace_reader.proofs.field.Tuple2Fields.read_all.Goals as goal

pub returns-in_default-read : goal.returns-in_default-read
returns-in_default-read g c = λ values is.
    let after = tail_of _ _ _ (sym c.in-Some.ensures ∙ is.1) in
    let plain = c.read.ensures.plain values.0 is.0.0 in
    let word = c.split_at.ensures.front ∙ cut_front c.in-Some.after.now (g.A.Field.shows values.0) (g.B.Fields.words values.1) c.place_of.result plain after c.place_of.ensures.first in
    c.in_default-read.ensures.found values.0 (is.0.0, word)

pub returns-in_default-read_all : goal.returns-in_default-read_all
returns-in_default-read_all g c = λ values is.
    let after = tail_of _ _ _ (sym c.in-Some.ensures ∙ is.1) in
    let plain = c.read.ensures.plain values.0 is.0.0 in
    let rest = c.split_at.ensures.back ∙ cut_back c.in-Some.after.now (g.A.Field.shows values.0) (g.B.Fields.words values.1) c.place_of.result plain after c.place_of.ensures.first in
    c.in_default-read_all.ensures values.1 (is.0.1, rest)
