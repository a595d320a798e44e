use Rattle.fv_volume.proofs.Outcomes.{on_ok}
use Rattle.std.proofs.Common.{take_all, arith, ◌≡◌, ℕ, ◌+◌, List, ◌++◌, length, map, take, flat_map, refl, sym, ap, ◌∙◌, subst}
use Rattle.fv_volume.specs.{declared.sections.section.Section.Section, declared.file.FfsFile.FfsFile}
use Rattle.fv_volume.specs.{declared.build.new_file.NewSection.NewSection, Frame.aligned, Sections.body_bytes}
use Rattle.fv_volume.specs.{declared.build.volume_header.VolumeForm.VolumeForm, Front.first_place}
use Rattle.volume_print.specs.Places.{pads_in, stands}
use Rattle.volume_print.specs.Spelling.{volume_line, name_line, pad_text}
use Rattle.volume_print.specs.Description.{section_in, form_in, name_in, IsInner}
use Rattle.volume_print.specs.Finding.{held, form_text, AddsSections, AddsFiles}
use Rattle.volume_print.proofs.{Forms.no_volume, OneText.told_or_not}
use Rattle.volume_print.proofs.Putting.{added, sections_more, sections_added, bytes_added, no_files, file_added, files_more, text_put}
use Rattle.volume_print.proofs.tree.+tree.Goals as goal

pub put_section-returns : goal.put_section-returns
put_section-returns t c =
    on_ok c.put_form.result _ _
    (λ grown. added (IsInner c.args.deep) c.args.host.now (map (section_in c.args.stream.now) c.args.before.now) (section_in c.args.stream.now c.args.section.now) c.in_ok-form.form
    c.args.out.now c.put_form.new.out c.in_ok-form.ensures
    (grown ∙ ap (λ b. let s : NewSection = record { kind = c.args.section.now.kind; body = b } in c.args.out.now ++ form_text s c.in_ok-form.form) c.body_of.ensures))
    c.put_form.ensures

pub put_sections-sections-preserved : goal.put_sections-sections-preserved
put_sections-sections-preserved t c =
    sections_more (IsInner c.args.deep) c.args.host.now c.args.stream.now c.args.sections.now c.sections.place _ c.args.out.now c.sections.out c.put_section.new.out c.sections-test.true
    c.sections.invariant c.in_ok-put_section.ensures

pub put_body-returns-in_ok-put_sections-in-Some : goal.put_body-returns-in_ok-put_sections-in-Some
put_body-returns-in_ok-put_sections-in-Some t c =
    let deep = IsInner c.args.deep in
    let body = c.args.body.now in
    let old = c.args.out.now in
    let new = c.put_sections.new.out in
    sections_added deep c.args.host.now body c.in-Some.sections old new c.args.file_system (rw c.in-Some.is at c.in_ok-sections.ensures)
    (subst (λ (ss : List Section). AddsSections deep c.args.host.now (map (section_in body) ss) old new) c.as_slice.ensures c.in_ok-put_sections-in-Some.ensures)
    c.sections_len.result
    (c.sections_len.ensures ∙ ap (λ (ss : List Section). held (length (body_bytes c.args.file_system (map (section_in body) ss)))) c.as_slice-in-Some.ensures)

pub put_file-returns : goal.put_file-returns
put_file-returns t c =
    let file = c.args.file.now in
    let fs = c.args.file_system in
    let old = c.args.out.now in
    file_added (IsInner c.args.deep) fs c.args.bytes.now file c.args.from c.behind.result c.attributes_at.result c.body_of-body.result.now old c.put_pads.new.out c.put_head.new.out
    c.put_body.new.out c.in_ok-body_len.body_len c.attributes_at.ensures c.body_of-body.ensures
    (c.in_ok-put_pads.ensures ∙ ap (λ s. old ++ flat_map pad_text (pads_in s)) c.between.ensures) c.in_ok-put_head.ensures c.in_ok-body_len.ensures (omega arith)
    (c.behind.ensures ∙ ap (λ n. held (aligned (n + c.file_size.result))) c.stands.ensures ∙ ap (λ n. held (aligned (stands c.args.from file.at + n))) c.file_size.ensures)

pub put_files-files-preserved : goal.put_files-files-preserved
put_files-files-preserved t c =
    files_more (IsInner c.args.deep) c.args.file_system c.args.bytes.now c.args.files.now c.files.file-index _ c.args.from c.files.next c.in_ok-next.next c.args.out.now c.files.out
    c.put_file.new.out c.files-test.true c.files.invariant c.in_ok-next.ensures

pub put_files-returns : goal.put_files-returns
put_files-returns t c =
    let all : take c.files.file-index c.args.files.now ≡ c.args.files.now = take_all c.files.file-index c.args.files.now (omega arith) in (
      c.files.next,
      subst (λ (fs : List FfsFile). AddsFiles (IsInner c.args.deep) c.args.file_system c.args.bytes.now fs c.args.from c.files.next c.args.out.now c.files.out) all c.files.invariant,
    )

pub text_by-returns : goal.text_by-returns
text_by-returns t c =
    let deep = IsInner c.args.deep in
    let image = c.args.bytes.now in
    let volume = c.args.volume.now in
    let system = c.form_in-form.result.file_system in
    let named = c.put_name.new.out in
    let filed = c.put_files.new.out in
    let adds = c.in_ok-put_files.ensures in
    let place = c.first_place-first.ensures ∙ ap (λ f. first_place f c.name_in-name.result) c.form_in-form.ensures ∙ ap (λ n. first_place (form_in image) n) c.name_in-name.ensures in
    let first = first_place (form_in image) (name_in image volume.name) in
    let there = subst (λ (n : ℕ). AddsFiles deep system image c.as_slice-files.result.now n adds.0 named filed) place adds.1 in
    let files = subst (λ (fs : List FfsFile). AddsFiles deep system image fs first adds.0 named filed) c.as_slice-files.ensures there in
    text_put deep image volume adds.0 c.put_head.new.out named filed c.append.new.self
    (c.in_ok-put_head.ensures ∙ ap (λ o. o ++ volume_line c.form_in-form.result volume.len) c.new-text.ensures ∙ ap (λ f. volume_line f volume.len) c.form_in-form.ensures)
    (c.in_ok-put_name.ensures ∙ ap (λ n. c.put_head.new.out ++ name_line n) c.name_in-name.ensures)
    (subst (λ (f : VolumeForm). AddsFiles deep f.file_system image volume.files first adds.0 named filed) c.form_in-form.ensures files) c.in_ok-append.ensures.ok

pub put_body-returns-in_ok-put_plain_body-in-None : goal.put_body-returns-in_ok-put_plain_body-in-None
put_body-returns-in_ok-put_plain_body-in-None t c =
    bytes_added (IsInner c.args.deep) c.args.host.now c.args.body.now c.args.out.now c.put_plain_body.new.out c.args.file_system (rw c.in-None.is at c.in_ok-sections.ensures)
    c.in_ok-put_plain_body-in-None.ensures (length c.args.body.now) refl (omega arith)

pub put_files-files-init : goal.put_files-files-init
put_files-files-init t c = no_files (IsInner c.args.deep) c.args.file_system c.args.bytes.now c.args.from c.args.out.now (omega arith)

pub nested_text-returns-in_default : goal.nested_text-returns-in_default
nested_text-returns-in_default t c =
    let section : NewSection = record { kind = c.args.kind; body = c.args.bytes.now } in
    no_volume c.args.deep c.args.host.now section (rw c.in_default.is at c.in_ok-volume.ensures.found)

pub nested_text-returns : goal.nested_text-returns
nested_text-returns t c =
    let section : NewSection = record { kind = c.args.kind; body = c.args.bytes.now } in
    let holds = sym c.holds_volume.ensures ∙ c.if-not-holds_volume.false in
    told_or_not c.one_reading.ensures.volumes c.one_text_by.ensures c.args.deep c.args.host.now section c.in-Some.volume c.in_ok-text.text c.read_again.result c.if-deep-eq0.false holds
    (rw c.in-Some.is at c.in_ok-volume.ensures.found) c.in_ok-text.ensures c.read_again.ensures
