use Rattle.std.proofs.Common.{◌≡◌, ◌+◌, ◌≤◌, ◌++◌, ◌∷◌, [], sym, ap, ◌∙◌, arith, length, length-append}
use Rattle.std.proofs.lemmas.List.Elements.{All-push}
use Rattle.fv_volume.specs.Stream.{met_at}
use Rattle.fv_volume.proofs.Streams.{leads_more, met_ok, section_lies}
use Rattle.fv_volume.proofs.sections.stream.read_sections.Goals as goal

pub stream-preserved : goal.stream-preserved
stream-preserved c =
    let bytes = c.args.bytes.now in
    let at = c.stream.at in
    let sections = c.stream.sections in
    let section = c.in-Ok.section in
    let sound = met_ok bytes c.len.result at section (sym c.in-Ok.ensures) in
    let lies = section_lies bytes at section sound.1 in
    let pushed : c.push.new.self ≡ sections ++ section ∷ [] = c.in_ok-push-in-Ok.ensures.ok in
    record {
      leads = rw (pushed, c.aligned-at.ensures) (leads_more bytes 0 sections at section c.stream.invariant.leads c.stream-test.true sound.1);
      few = rw pushed (omega (arith, length-append sections (section ∷ []), sound.0, c.len.ensures));
      inside = rw pushed (All-push (λ s. s.body_at + s.body_len ≤ length bytes) sections section c.stream.invariant.inside lies.ends);
      within = omega (arith, lies.ends, c.aligned-at.ensures);
    }

pub returns-in-Err-clause-refused : goal.returns-in-Err-clause-refused
returns-in-Err-clause-refused c other =
    let faulty = ap (λ n. met_at c.args.bytes.now n c.stream.at) (sym c.len.ensures) ∙ sym c.in-Err.ensures in
    (c.stream.sections, c.stream.invariant.leads, c.stream.invariant.few, c.stream-test.true, faulty)

pub returns-clause-found : goal.returns-clause-found
returns-clause-found c = (c.stream.at, c.stream.invariant.leads, omega (arith, c.stream-test.false), c.stream.invariant.few)
