use Rattle.std.proofs.Common.{◌≡◌, [], ◌∷◌, ◌∙◌}
use Rattle.boot_io.proofs.PutsLaws.{part_of_more, puts_err, puts_then}
use Rattle.pi_base.specs.WordText.{guid_text}
use Rattle.tools_core.specs.FollowText.{guid_word}
use Rattle.tools_core.proofs.follow_print.put_guid.Goals as goal

pub returns-in_err-put-clause-text : goal.returns-in_err-put-clause-text
returns-in_err-put-clause-text g c =
    let T = g.S.Sink.text in
    let guid = c.args.guid.now in
    puts_err c.from_residual.result (T c.args.sink.now) (T c.put.new.self) (guid_word guid) c.from_residual.ensures.0
    (part_of_more (T c.args.sink.now) (T c.put.new.self) (32 ∷ []) (guid_text guid) c.in_err-put.ensures.text)

pub returns-clause-text : goal.returns-clause-text
returns-clause-text g c =
    let T = g.S.Sink.text in
    let guid = c.args.guid.now in
    let word : c.as_slice.result.now ≡ guid_text guid = c.as_slice.ensures ∙ c.to_text.ensures in
    puts_then c.put-2.result (T c.args.sink.now) (T c.put.new.self) (T c.put-2.new.self) (32 ∷ []) (guid_text guid) c.in_ok-put.ensures.text (rw word at c.put-2.ensures.text)
