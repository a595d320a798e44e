use Rattle.std.proofs.Common.{◌++◌, [], ◌∷◌, ◌∙◌, decimal, flat_map, codes}
use Rattle.boot_io.specs.Line.{spaced}
use Rattle.trace_reader.proofs.Splits.{cut_front, cut_back, behind_is}
use Rattle.trace_reader.proofs.byte_line.hob_words.Goals as goal

pub returns-in_default-read : goal.returns-in_default-read
returns-in_default-read c = λ kind body fits is.
    let words = behind_is c.args.line.now (codes "hob ") c.in-Some.words.now (decimal kind ++ flat_map spaced (body ∷ [])) c.in-Some.ensures is in
    let plain = c.read.ensures.plain kind fits in
    let word = c.split_at.ensures.front ∙ cut_front c.in-Some.words.now (decimal kind) (body ∷ []) c.place_of.result plain words c.place_of.ensures.first in
    c.in_default-read.ensures.found kind (fits, word)

pub returns-in-None : goal.returns-in-None
returns-in-None c = λ kind body fits is.
    let words = behind_is c.args.line.now (codes "hob ") c.in-Some.words.now (decimal kind ++ flat_map spaced (body ∷ [])) c.in-Some.ensures is in
    let plain = c.read.ensures.plain kind fits in
    let rest = c.split_at.ensures.back ∙ cut_back c.in-Some.words.now (decimal kind) (body ∷ []) c.place_of.result plain words c.place_of.ensures.first in
    c.in-None.ensures _ rest
