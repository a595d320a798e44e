use Rattle.std.proofs.Common.{refl, ap, sym, subst, ◌∙◌, ◌++◌, Ok, Err, arith}
use Rattle.pi_base.specs.Lists.{Each}
use Rattle.store_model.specs.{StateFacts.IsDesc, Service.Descriptor.offsets}
use Rattle.boot_io.proofs.PutsLaws.{puts_then}
use Rattle.boot_io.specs.Sink as Sinks
use Rattle.boot_model.specs.{PeiStep.report_lines, Reporting.reports, Text.line_text, Text.text_of}
use Rattle.pei_core.specs.Parts.{reply_goal}
use Rattle.pei_core.proofs.Calls.{call_line, call_lines, came, new_volumes, replied_core, shown_are}
use Rattle.pei_core.proofs.Going.{first_part, leads_fail, stepped, texts}
use Rattle.pei_core.proofs.SecondStarts.{nobody}
use Rattle.pei_core.proofs.pei.Pei.answer.Goals as goal

pub returns-in_err-put_made-clause-row : goal.returns-in_err-put_made-clause-row
returns-in_err-put_made-clause-row g c m frame below new is =
    let T = g.S.Sink.text in
    let catalog = c.args.catalog.now in
    let reply = c.args.reply in
    let goal = reply_goal catalog m frame below reply new in
    leads_fail _ _ m goal (texts (T c.args.sink.now) (T c.put_made.new.sink)) c.from_residual.result c.from_residual.ensures.1
    (first_part m goal.to (call_line reply) (call_line reply) (report_lines (new_volumes catalog new m.reported reply)) (T c.args.sink.now) (T c.put_made.new.sink) refl refl c.in_err-put_made.ensures.text)

pub returns-in_err-put_reports-clause-row : goal.returns-in_err-put_reports-clause-row
returns-in_err-put_reports-clause-row g c m frame below new is =
    let T = g.S.Sink.text in
    let catalog = c.args.catalog.now in
    let reply = c.args.reply in
    let core = c.args.self.now.core in
    let goal = reply_goal catalog m frame below reply new in
    let installs = c.as_slice.ensures.value in
    let more = c.report-volumes.ensures.reported new is.store (subst (λ xs. Each (IsDesc new) xs) (sym installs) is.installed) ∙ ap (λ xs. core.reported ++ reports catalog new core.reported (offsets xs)) installs in
    let shown = shown_are m catalog reply new core c.report-volumes.new.reported c.last_volumes.result.now c.report-volumes.result is.fields more c.report-volumes.ensures.count c.last_volumes.ensures in
    let r = c.in_err-put_reports.ensures.text in
    let rest = subst (λ xs. Sinks.Puts (Err _) (T c.put_made.new.sink) (T c.put_reports.new.sink) (text_of (report_lines xs))) shown r in
    leads_fail _ _ m goal (texts (T c.args.sink.now) (T c.put_reports.new.sink)) c.from_residual-in_err-put_reports.result c.from_residual-in_err-put_reports.ensures.1
    (record {
      told = call_lines catalog m reply new;
      lines = refl;
      text = puts_then (Err _) (T c.args.sink.now) (T c.put_made.new.sink) (T c.put_reports.new.sink) (line_text (call_line reply)) (text_of (report_lines (new_volumes catalog new m.reported reply))) c.in_ok-put_made.ensures.text rest;
    })

pub returns-clause-row : goal.returns-clause-row
returns-clause-row g c m frame below new is =
    let T = g.S.Sink.text in
    let catalog = c.args.catalog.now in
    let reply = c.args.reply in
    let core = c.args.self.now.core in
    let goal = reply_goal catalog m frame below reply new in
    let installs = c.as_slice.ensures.value in
    let top = c.answer.ensures frame below (sym is.fields.frames ∙ is.frames) in
    let more = c.report-volumes.ensures.reported new is.store (subst (λ xs. Each (IsDesc new) xs) (sym installs) is.installed) ∙ ap (λ xs. core.reported ++ reports catalog new core.reported (offsets xs)) installs in
    let shown = shown_are m catalog reply new core c.report-volumes.new.reported c.last_volumes.result.now c.report-volumes.result is.fields more c.report-volumes.ensures.count c.last_volumes.ensures in
    let rest = subst (λ xs. Sinks.Puts (Ok _) (T c.put_made.new.sink) (T c.put_reports.new.sink) (text_of (report_lines xs))) shown c.in_ok-put_reports.ensures.text in
    let fields = replied_core m catalog frame below reply new core c.answer.new.self c.report-volumes.new.reported is.fields top more in
    record {
      there = refl;
      gone = refl;
      again = nobody m goal.to refl refl is.stays;
      volumes = came m goal.to core c.report-volumes.new.reported c.report-volumes.result is.fields fields.reported c.report-volumes.ensures.count;
      stepped = stepped _ m goal.to (call_lines catalog m reply new) (T c.args.sink.now) (T c.put_reports.new.sink) refl
          (puts_then (Ok _) (T c.args.sink.now) (T c.put_made.new.sink) (T c.put_reports.new.sink) (line_text (call_line reply)) (text_of (report_lines (new_volumes catalog new m.reported reply))) c.in_ok-put_made.ensures.text rest)
          (record { store = is.store; fields = fields });
    }

pub returns-in_err-put_made-clause-kept : goal.returns-in_err-put_made-clause-kept
returns-in_err-put_made-clause-kept g c = record { made = λ fuel for. record { states = for.states; known = c.report-volumes.ensures.known; fuelled = for.fuelled }; started = refl }

pub returns-in_err-put_reports-clause-kept : goal.returns-in_err-put_reports-clause-kept
returns-in_err-put_reports-clause-kept g c = record { made = λ fuel for. record { states = for.states; known = c.report-volumes.ensures.known; fuelled = for.fuelled }; started = refl }

pub returns-clause-kept : goal.returns-clause-kept
returns-clause-kept g c = record { made = λ fuel for. record { states = for.states; known = c.report-volumes.ensures.known; fuelled = for.fuelled }; started = refl }

pub returns-clause-faults : goal.returns-clause-faults
returns-clause-faults g c = c.in_ok-put_reports.ensures.cause ∙ c.in_ok-put_made.ensures.cause

pub report-volumes-requires-clause-known : goal.report-volumes-requires-clause-known
report-volumes-requires-clause-known g c = c.requires.known

pub report-volumes-requires-clause-state : goal.report-volumes-requires-clause-state
report-volumes-requires-clause-state g c = let stands = c.requires.state in (stands.0, stands.1, subst (λ list. Each (IsDesc stands.0) list) (sym c.as_slice.ensures.value) stands.2)

pub last_volumes-requires : goal.last_volumes-requires
last_volumes-requires g c = omega (arith, c.report-volumes.ensures.count)
