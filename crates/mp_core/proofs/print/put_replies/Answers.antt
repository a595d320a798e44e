use Rattle.std.proofs.Common.{◌-◌, length, take, drop, get_or, sym, rules}
use Rattle.mp_core.specs.{declared.reply.MpReply.TheVariants.Word, declared.reply.MpWord.TheVariants.Success}
use Rattle.mp_core.specs.OutcomeText.{reply_line, replies_text}
use Rattle.mp_core.proofs.Putting.{left_is, left_more, left_fails}
use Rattle.mp_core.proofs.ReplyLines.{next_reply}
use Rattle.boot_io.proofs.PutsLaws.{puts_err}
use Rattle.mp_core.proofs.print.put_replies.Goals as goal

pub returns-in_err-put_reply-clause-text : goal.returns-in_err-put_reply-clause-text
returns-in_err-put_reply-clause-text g c =
    let T = g.S.Sink.text in
    let events = c.events.later.now in
    let replies = c.events.answers.now in
    let x = c.event-item in
    let so_far = left_is (T c.args.sink.now) (T c.events.sink) _ _ _ c.events.invariant.text
    (next_reply events x.result replies (Word Success) x.is c.in-len1-up.len_at_least c.in-len1-up-answers.len_at_least (sym c.if-not-is_turn.ensures)) in
    puts_err c.from_residual.result (T c.args.sink.now) (T c.put_reply.new.sink) _ c.from_residual.ensures.0
    (left_fails (T c.args.sink.now) (T c.events.sink) (T c.put_reply.new.sink) (reply_line (x.result, get_or replies 0 (Word Success)))
    (replies_text (take (length events - 1) (drop 1 events)) (take (length replies - 1) (drop 1 replies))) _ so_far c.in_err-put_reply.ensures.text)

pub events-preserved-in_ok-put_reply : goal.events-preserved-in_ok-put_reply
events-preserved-in_ok-put_reply g c =
    let T = g.S.Sink.text in
    let events = c.events.later.now in
    let replies = c.events.answers.now in
    let x = c.event-item in
    let so_far = left_is (T c.args.sink.now) (T c.events.sink) _ _ _ c.events.invariant.text
    (next_reply events x.result replies (Word Success) x.is c.in-len1-up.len_at_least c.in-len1-up-answers.len_at_least (sym c.if-not-is_turn.ensures)) in
    record {
      text = left_more (T c.args.sink.now) (T c.events.sink) (T c.put_reply.new.sink) (reply_line (x.result, get_or replies 0 (Word Success)))
          (replies_text (take (length events - 1) (drop 1 events)) (take (length replies - 1) (drop 1 replies))) _ so_far c.in_ok-put_reply.ensures.text;
      count = search rules;
    }
