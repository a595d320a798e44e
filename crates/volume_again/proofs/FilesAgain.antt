-- A printed text says the files again of which it is the text.
use Rattle.std.proofs.Common.{◌≡◌, inl, inr, ℕ, zero, suc, ◌<◌, ◌≤◌, ◌^◌, ◌%◌, ◌&&◌, Bool, true, false, cond, List, [], ◌∷◌, ◌++◌, length, map, take, drop, flat_map, Option, Some, None, Ok, refl, sym, ap, ◌∙◌, subst, append_assoc, arith, decimal, All, codes, nat_le, ◌==◌, eqb-true, append-nil, length-drop}
use Rattle.std.specs.List.{AllByRecursion}
use Rattle.std.proofs.{lemmas.Bool.and_parts, lemmas.Bool.Decides.nat_tests, lemmas.List.Elements.All-head, lemmas.List.Elements.All-tail}
use Rattle.hex.specs.Hex.{IsBytes, encode_lower}
use Rattle.pi_base.specs.Guids.{guid_at}
use Rattle.asm_text.specs.{ExpressionText.expression_text, ScriptText.line, ScriptText.block_lines}
use Rattle.mod_catalog.specs.APrioriNames.{guids_in}
use Rattle.depex_code.specs.Expression.{instructions, bytes_of}
use Rattle.fv_volume.specs.{declared.build.new_file.NewFile.NewFile, declared.build.new_file.NewSection.NewSection}
use Rattle.fv_volume.specs.declared.build.new_file.Body.{Body}
use Rattle.fv_volume.specs.declared.build.new_file.Body.TheVariants.{Sections, Bytes}
use Rattle.fv_volume.specs.{declared.build.attributes.FileAttributes.FileAttributes, declared.build.volume_header.VolumeForm.VolumeForm}
use Rattle.fv_volume.specs.{declared.build.volume_name.VolumeName.VolumeName, Attributes.plain_attributes, Front.is_placed, Reading.AreEach}
use Rattle.volume_text.specs.{declared.volume.OpenVolume.OpenVolume, Words.is_header, Words.is_length, Step.section_of}
use Rattle.volume_text.specs.{Open.new_file, Open.depex_type, Text.numbered, Text.Leads, UserInterface.ui_bytes}
use Rattle.volume_text.specs.Volume.{SayFiles, no_file, named, padded, file, bodied, section, depex, script, volume, SaysOpen, SaysVolume}
use Rattle.volume_print.specs.Spelling.{phase_word, guid_word as told_guid, is_a_priori, volume_line, name_line, IsSectionText, as_volume, as_expression, as_guids, as_script, as_name, as_bytes, AreSectionTexts, whole, body_line, head_line, are_erased, pad_line, pad_text, with_pads, IsBodyText, host_of, IsFileText, IsVolumeText}
use Rattle.volume_print.specs.Places.{pad_of}
use Rattle.volume_again.specs.Again.{IsNameOfBytes, IsOfBytes, IsBodyOfBytes, IsFileOfBytes, IsSectionAgain, IsFileAgain, among}
use Rattle.volume_again.proofs.TextLines.{IsLine, Has, has_none, has_line, has_both, has_all, has_own}
use Rattle.volume_again.proofs.SaidLines.{volume_text, volume_says, name_text, name_says, least_size, file_text, file_says, section_text, section_says, ui_says, body_says, pad_says, guids_say, depex_says, script_says as script_begins, end_says}
use Rattle.volume_again.proofs.FileLines.{block_texts, script_says, script_has, same_scripts, same_depexes}
use Rattle.volume_again.proofs.{Trees.expression_is, GuidRuns.run_is, GuidRuns.guids_are, GoodScripts.good_script}
use Rattle.volume_again.proofs.ByteRuns.{left_bytes, guid_there}
use Rattle.volume_again.proofs.PadPieces.{IsGoodPiece, IsGoodPad, erased_pad}

-- a text inside says a volume of as many bytes, in which volumes are at most so many levels deep as are left
pub record SaysInside (deep : ℕ) (stream text : List ℕ) : Type 0 where
  pub left : ℕ
  pub one_less : deep ≡ suc left
  pub again : List ℕ
  pub leads : Leads text again
  pub long : length again ≡ length stream
  pub says : SaysVolume left (map (λ l. l.1) (numbered text)) again

-- what holds of volumes inside
pub record InnerLaws (Inner : List ℕ → List ℕ → Type 0) (deep : ℕ) : Type 0 where
  pub ends : (stream text : List ℕ) → Inner stream text → (front : List ℕ) × (text ≡ front ++ 10 ∷ [])
  pub says : (stream text : List ℕ) → IsBytes stream → Inner stream text → SaysInside deep stream text

-- the text has lines
record AreLines (text : List ℕ) : Type 0 where
  lines : List (List ℕ)
  has : Has text lines

-- a file with these sections
abbrev file_of : NewFile → FileAttributes → List NewSection → NewFile
file_of host attributes sections = record { name = host.name; kind = host.kind; attributes = attributes; body = Sections sections }

-- lines say one section more
record TellsOne (Inner : List ℕ → List ℕ → Type 0) (deep size : ℕ) (host : NewFile) (attributes : FileAttributes) (done : List NewSection) (one : NewSection) (lines : List (List ℕ)) (called : Option VolumeName) (files : List NewFile) (text : List ℕ)
    : Type 0 where
  told : AreLines text
  again : NewSection
  is : IsSectionAgain Inner host one again
  say : SayFiles deep size (lines ++ told.lines) called (files ++ file_of host attributes (done ++ again ∷ []) ∷ [])

abbrev one_line : (text l : List ℕ) → text ≡ line l → IsLine l → AreLines text
one_line text l here is = record { lines = l ∷ []; has = subst (λ (t : List ℕ). Has t (l ∷ [])) (sym here) (has_line l is) }

section_told : (Inner : List ℕ → List ℕ → Type 0) → (deep : ℕ) → InnerLaws Inner deep → (size : ℕ) → (host : NewFile) (attributes : FileAttributes) (before done : List NewSection) (one : NewSection) (lines : List (List ℕ)) (called : Option VolumeName)
    (files : List NewFile) (text : List ℕ) → IsOfBytes one → AreEach (IsSectionAgain Inner host) before done → IsSectionText Inner (host_of host) before one text
    → SayFiles deep size lines called (files ++ file_of host attributes done ∷ []) → TellsOne Inner deep size host attributes done one lines called files text
section_told Inner deep laws size host attributes before done one lines called files text fits each (as_volume inside) say =
    let made = laws.says one.body text fits.1 inside.1 in
    let ended = laws.ends one.body text inside.1 in
    let told : AreLines text = record { lines = map (λ l. l.1) (numbered text); has = has_own text ended.0 ended.1 } in
    let says = made.says in
    let next = file_of host attributes (done ++ section_of 23 made.again ∷ []) in
    let holds = and_parts (host.kind == 11) (one.kind == 23) inside.0 in
    let room = subst (λ (n : ℕ). SayFiles n size lines called (files ++ file_of host attributes done ∷ [])) made.one_less say in
    let more : SayFiles (suc made.left) size (lines ++ says.line ∷ (says.inner ++ says.end ∷ [])) called (files ++ next ∷ []) =
    volume lines called files (file_of host attributes done) next says.line says.inner says.volume says.end made.again room says.begins says.files says.ends says.built refl in
    record {
      told = told;
      again = section_of 23 made.again;
      is = (sym (eqb-true one.kind 23 holds.1), made.long, inr (inside.0, (text, inside.1, made.leads)));
      say = subst (λ (ls : List (List ℕ)). SayFiles deep size (lines ++ ls) called (files ++ next ∷ [])) (sym says.here)
          (subst (λ (n : ℕ). SayFiles n size (lines ++ says.line ∷ (says.inner ++ says.end ∷ [])) called (files ++ next ∷ [])) (sym made.one_less) more);
    }
section_told Inner deep laws size host attributes before done one lines called files text fits each (as_expression phase e x is) say =
    let reads = x.bytes.0 in
    let bytes : IsBytes (bytes_of (instructions e)) = subst IsBytes x.bytes.1 fits.1 in
    let l = depex_says phase e reads.suits (expression_is e reads.guids bytes) reads.few in
    let again = section_of (depex_type phase) (bytes_of (instructions e)) in
    record {
      told = one_line text (codes "depex " ++ (phase_word phase ++ (32 ∷ expression_text e))) is l.is;
      again = again;
      is = (sym x.kind_is, ap length (sym x.bytes.1), inl (sym x.bytes.1));
      say = depex lines called files (file_of host attributes done) (file_of host attributes (done ++ again ∷ [])) (codes "depex " ++ (phase_word phase ++ (32 ∷ expression_text e))) phase (bytes_of (instructions e)) say l.says x.part (same_depexes Inner host phase before done each ∙ x.first) refl;
    }
section_told Inner deep laws size host attributes before done one lines called files text fits each (as_guids list is) say =
    let raw = and_parts (is_a_priori (host_of host)) ((one.kind == 25) && (length one.body % 16 == 0)) list in
    let tests = and_parts (one.kind == 25) (length one.body % 16 == 0) raw.1 in
    let whole_guids = eqb-true (length one.body % 16) 0 tests.1 in
    let l = guids_say (guids_in one.body) (guids_are one.body fits.1 whole_guids) in
    let again = section_of 25 (flat_map (λ g. g.0) (guids_in one.body)) in
    record {
      told = one_line text (codes "guids" ++ flat_map told_guid (guids_in one.body)) is l.is;
      again = again;
      is = (sym (eqb-true one.kind 25 tests.0), ap length (run_is one.body whole_guids), inl (run_is one.body whole_guids));
      say = section lines called files (file_of host attributes done) (file_of host attributes (done ++ again ∷ [])) (codes "guids" ++ flat_map told_guid (guids_in one.body)) 25 (flat_map (λ g. g.0) (guids_in one.body)) say l.says refl;
    }
section_told Inner deep laws size host attributes before done one lines called files text fits each (as_script s x is) say =
    let good = good_script one.body s fits.1 x.bytes in
    let begins = script_begins s.phase in
    let inner = flat_map block_texts s.blocks in
    let again = section_of 25 one.body in
    let head = codes "script " ++ phase_word s.phase in
    let behind = has_both (flat_map block_lines s.blocks) (line (codes "end")) inner (codes "end" ∷ []) (script_has s.phase s.blocks good) (has_line (codes "end") end_says.is) in
    let all = head ∷ (inner ++ codes "end" ∷ []) in
    record {
      told = record {
        lines = all;
        has = subst (λ (t : List ℕ). Has t all) (sym is) (has_both (line head) (flat_map block_lines s.blocks ++ line (codes "end")) (head ∷ []) (inner ++ codes "end" ∷ []) (has_line head begins.is) behind);
      };
      again = again;
      is = (sym x.kind_is, refl, inl refl);
      say = script lines called files (file_of host attributes done) (file_of host attributes (done ++ again ∷ [])) head s.phase inner s.blocks (codes "end") one.body say begins.says x.part
          (same_scripts Inner host s.phase before done each ∙ x.first) (script_says s.phase s.blocks good) end_says.says x.bytes refl;
    }
section_told Inner deep laws size host attributes before done one lines called files text fits each (as_name name x is) say =
    let l = ui_says name x.1.some x.1.shown in
    let again = section_of 21 (ui_bytes name) in
    record {
      told = one_line text (codes "ui " ++ name) is l.is;
      again = again;
      is = (sym x.0, ap length (sym x.1.bytes), inl (sym x.1.bytes));
      say = section lines called files (file_of host attributes done) (file_of host attributes (done ++ again ∷ [])) (codes "ui " ++ name) 21 (ui_bytes name) say l.says refl;
    }
section_told Inner deep laws size host attributes before done one lines called files text fits each (as_bytes v n l m u is) say =
    let told = section_says one.kind one.body fits.0 fits.1 in
    let again = section_of one.kind one.body in
    record {
      told = one_line text (section_text one.kind one.body) is told.is;
      again = again;
      is = (refl, refl, inl refl);
      say = section lines called files (file_of host attributes done) (file_of host attributes (done ++ again ∷ [])) (section_text one.kind one.body) one.kind one.body say told.says refl;
    }

each_more : {A B : Type 0} (Is : A → B → Type 0) (xs : List A) (ys : List B) (x : A) (y : B) → AreEach Is xs ys → Is x y → AreEach Is (xs ++ x ∷ []) (ys ++ y ∷ [])
each_more Is [] [] x y all is = (is, tt)
each_more Is [] (b ∷ ys) x y all is = absurd all
each_more Is (a ∷ xs) [] x y all is = absurd all
each_more Is (a ∷ xs) (b ∷ ys) x y all is = (all.0, each_more Is xs ys x y all.1 is)

-- lines say sections more
record TellsMore (Inner : List ℕ → List ℕ → Type 0) (deep size : ℕ) (host : NewFile) (attributes : FileAttributes) (before done more : List NewSection) (lines : List (List ℕ)) (called : Option VolumeName) (files : List NewFile) (text : List ℕ)
    : Type 0 where
  told : AreLines text
  again : List NewSection
  each : AreEach (IsSectionAgain Inner host) (before ++ more) again
  say : SayFiles deep size (lines ++ told.lines) called (files ++ file_of host attributes again ∷ [])

sections_told : (Inner : List ℕ → List ℕ → Type 0) → (deep : ℕ) → InnerLaws Inner deep → (size : ℕ) → (host : NewFile) (attributes : FileAttributes) (before done more : List NewSection) (texts : List (List ℕ)) (lines : List (List ℕ)) (called : Option VolumeName)
    (files : List NewFile) → All IsOfBytes more → AreEach (IsSectionAgain Inner host) before done → AreSectionTexts Inner (host_of host) before more texts
    → SayFiles deep size lines called (files ++ file_of host attributes done ∷ []) → TellsMore Inner deep size host attributes before done more lines called files (whole texts)
sections_told Inner deep laws size host attributes before done [] [] lines called files fits each are say = record {
  told = record { lines = []; has = has_none };
  again = done;
  each = subst (λ (xs : List NewSection). AreEach (IsSectionAgain Inner host) xs done) (sym (append-nil before)) each;
  say = subst (λ (ls : List (List ℕ)). SayFiles deep size ls called (files ++ file_of host attributes done ∷ [])) (sym (append-nil lines)) say;
}
sections_told Inner deep laws size host attributes before done [] (t ∷ texts) lines called files fits each are say = absurd are
sections_told Inner deep laws size host attributes before done (one ∷ more) [] lines called files fits each are say = absurd are
sections_told Inner deep laws size host attributes before done (one ∷ more) (text ∷ texts) lines called files fits each are say =
    let first = section_told Inner deep laws size host attributes before done one lines called files text (All-head IsOfBytes one more fits) each are.0 say in
    let grown = each_more (IsSectionAgain Inner host) before done one first.again each first.is in
    let rest = sections_told Inner deep laws size host attributes (before ++ one ∷ []) (done ++ first.again ∷ []) more texts (lines ++ first.told.lines) called files (All-tail IsOfBytes one more fits) grown are.1 first.say in
    record {
      told = record {
        lines = first.told.lines ++ rest.told.lines;
        has = has_both text (whole texts) first.told.lines rest.told.lines first.told.has rest.told.has;
      };
      again = rest.again;
      each = subst (λ (xs : List NewSection). AreEach (IsSectionAgain Inner host) xs rest.again) (append_assoc before (one ∷ []) more) rest.each;
      say = subst (λ (ls : List (List ℕ)). SayFiles deep size ls called (files ++ file_of host attributes rest.again ∷ [])) (append_assoc lines first.told.lines rest.told.lines) rest.say;
    }

-- lines say one file more
record TellsFile (Inner : List ℕ → List ℕ → Type 0) (deep size : ℕ) (one : NewFile) (lines : List (List ℕ)) (called : Option VolumeName) (files : List NewFile) (text : List ℕ) : Type 0 where
  told : AreLines text
  again : NewFile
  is : IsFileAgain Inner one again
  say : SayFiles deep size (lines ++ told.lines) called (files ++ again ∷ [])

body_told : (Inner : List ℕ → List ℕ → Type 0) → (deep : ℕ) → InnerLaws Inner deep → (size : ℕ) → (host : NewFile) (attributes : FileAttributes) (body : Body) (lines : List (List ℕ)) (called : Option VolumeName) (files : List NewFile) (text : List ℕ)
    → IsBodyOfBytes body → IsBodyText Inner (host_of host) body text → SayFiles deep size lines called (files ++ new_file host.kind host.name attributes ∷ [])
    → TellsFile Inner deep size (record { name = host.name; kind = host.kind; attributes = attributes; body = body }) lines called files text
body_told Inner deep laws size host attributes (Sections sections) lines called files text fits is say =
    let more = sections_told Inner deep laws size host attributes [] [] sections is.0 lines called files fits tt is.1 say in
    record {
      told = record { lines = more.told.lines; has = subst (λ (t : List ℕ). Has t more.told.lines) (sym is.2) more.told.has };
      again = file_of host attributes more.again;
      is = record { kind = refl; name = refl; attributes = refl; body = more.each };
      say = more.say;
    }
body_told Inner deep laws size host attributes (Bytes bytes) lines called files text fits is say =
    let l = body_says bytes fits in
    let again : NewFile = record { name = host.name; kind = host.kind; attributes = attributes; body = Bytes bytes } in
    record {
      told = one_line text (codes "body " ++ encode_lower bytes) is l.is;
      again = again;
      is = record { kind = refl; name = refl; attributes = refl; body = refl };
      say = bodied lines called files (new_file host.kind host.name attributes) again (codes "body " ++ encode_lower bytes) bytes say l.says refl;
    }

file_told : (Inner : List ℕ → List ℕ → Type 0) → (deep : ℕ) → InnerLaws Inner deep → (size : ℕ) → (one : NewFile) (lines : List (List ℕ)) (called : Option VolumeName) (files : List NewFile) (text : List ℕ)
    → IsFileOfBytes one → IsFileText Inner one text → SayFiles deep size lines called files → TellsFile Inner deep size one lines called files text
file_told Inner deep laws size one lines called files text fits is say =
    let l = file_says one.kind one.name one.attributes fits.kind fits.name in
    let head = file_text one.kind one.name one.attributes in
    let begun = file lines called files head one.kind one.name one.attributes say l.says in
    let more = body_told Inner deep laws size one one.attributes one.body (lines ++ head ∷ []) called files is.0 fits.body is.1 begun in
    record {
      told = record {
        lines = head ∷ more.told.lines;
        has = subst (λ (t : List ℕ). Has t (head ∷ more.told.lines)) (sym is.2) (has_both (line head) is.0 (head ∷ []) more.told.lines (has_line head l.is) more.told.has);
      };
      again = more.again;
      is = more.is;
      say = subst (λ (ls : List (List ℕ)). SayFiles deep size ls called (files ++ more.again ∷ [])) (append_assoc lines (head ∷ []) more.told.lines) more.say;
    }

-- lines say a pad, whose text this is
record TellsPad (deep size : ℕ) (pad : NewFile) (text : List ℕ) (lines : List (List ℕ)) (called : Option VolumeName) (done : List NewFile) : Type 0 where
  told : AreLines text
  say : SayFiles deep size (lines ++ told.lines) called (done ++ pad ∷ [])

pad_by : (test : Bool) (deep size : ℕ) (piece : List ℕ) (lines : List (List ℕ)) (called : Option VolumeName) (done : List NewFile) → IsGoodPiece piece
    → (are_erased (take 16 piece) && are_erased (drop 24 piece)) ≡ test → SayFiles deep size lines called done
    → TellsPad deep size (pad_of piece) (cond test (pad_line (length (drop 24 piece))) (head_line 240 (guid_at piece 0) plain_attributes ++ body_line (drop 24 piece))) lines called done
pad_by true deep size piece lines called done good is say =
    let len = length (drop 24 piece) in
    let text = codes "pad " ++ decimal len in
    let fits : nat_le len 16777190 ≡ true = let few : len ≤ 16777190 = omega (arith, good.most, length-drop 24 piece) in grind (arith, nat_tests) in
    let l = pad_says len fits in
    record {
      told = record { lines = text ∷ []; has = has_line text l.is };
      say = subst (λ (f : NewFile). SayFiles deep size (lines ++ text ∷ []) called (done ++ f ∷ [])) (erased_pad piece good is) (padded lines called done text len say l.says);
    }
pad_by false deep size piece lines called done good is say =
    let name = guid_at piece 0 in
    let bytes = drop 24 piece in
    let head = file_text 240 name plain_attributes in
    let body = codes "body " ++ encode_lower bytes in
    let h = file_says 240 name plain_attributes (omega arith) (guid_there piece 0 good.bytes (omega (arith, good.least))) in
    let b = body_says bytes (left_bytes 24 piece good.bytes) in
    let begun = file lines called done head 240 name plain_attributes say h.says in
    let full = bodied (lines ++ head ∷ []) called done (new_file 240 name plain_attributes) (pad_of piece) body bytes begun b.says refl in
    record {
      told = record { lines = head ∷ (body ∷ []); has = has_both (line head) (line body) (head ∷ []) (body ∷ []) (has_line head h.is) (has_line body b.is) };
      say = subst (λ (ls : List (List ℕ)). SayFiles deep size ls called (done ++ pad_of piece ∷ [])) (append_assoc lines (head ∷ []) (body ∷ [])) full;
    }

pad_told : (deep size : ℕ) (pad : NewFile) (lines : List (List ℕ)) (called : Option VolumeName) (done : List NewFile) → IsGoodPad pad → SayFiles deep size lines called done
    → TellsPad deep size pad (pad_text pad) lines called done
pad_told deep size pad lines called done good say =
    let piece = good.0 in
    subst (λ (f : NewFile). TellsPad deep size f (pad_text f) lines called done) (sym good.1)
    (pad_by (are_erased (take 16 piece) && are_erased (drop 24 piece)) deep size piece lines called done good.2 refl say)

-- lines say pads
record TellsPads (deep size : ℕ) (pads : List NewFile) (lines : List (List ℕ)) (called : Option VolumeName) (done : List NewFile) : Type 0 where
  told : AreLines (flat_map pad_text pads)
  say : SayFiles deep size (lines ++ told.lines) called (done ++ pads)

pads_told : (deep size : ℕ) (lines : List (List ℕ)) (called : Option VolumeName) (done pads : List NewFile) → AllByRecursion IsGoodPad pads → SayFiles deep size lines called done → TellsPads deep size pads lines called done
pads_told deep size lines called done [] fits say = record {
  told = record { lines = []; has = has_none };
  say = subst (λ (ls : List (List ℕ)). SayFiles deep size ls called (done ++ [])) (sym (append-nil lines)) (subst (λ (fs : List NewFile). SayFiles deep size lines called fs) (sym (append-nil done)) say);
}
pads_told deep size lines called done (pad ∷ pads) fits say =
    let one = pad_told deep size pad lines called done fits.0 say in
    let rest = pads_told deep size (lines ++ one.told.lines) called (done ++ pad ∷ []) pads fits.1 one.say in
    record {
      told = record { lines = one.told.lines ++ rest.told.lines; has = has_both (pad_text pad) (flat_map pad_text pads) one.told.lines rest.told.lines one.told.has rest.told.has };
      say = subst (λ (ls : List (List ℕ)). SayFiles deep size ls called (done ++ (pad ∷ pads))) (append_assoc lines one.told.lines rest.told.lines)
          (subst (λ (fs : List NewFile). SayFiles deep size ((lines ++ one.told.lines) ++ rest.told.lines) called fs) (append_assoc done (pad ∷ []) pads) rest.say);
    }

-- four lists one behind the other
four : {A : Type 0} (a b c d : List A) → ((a ++ b) ++ c) ++ d ≡ a ++ (b ++ (c ++ d))
four a b c d = append_assoc (a ++ b) c d ∙ append_assoc a b (c ++ d)

-- lines say files, each behind its pads
record TellsFiles (Inner : List ℕ → List ℕ → Type 0) (deep size : ℕ) (done : List NewFile) (pads : List (List NewFile)) (files : List NewFile) (lines : List (List ℕ)) (called : Option VolumeName) (text : List ℕ) : Type 0 where
  told : AreLines text
  again : List NewFile
  each : AreEach (IsFileAgain Inner) files again
  say : SayFiles deep size (lines ++ told.lines) called (done ++ among pads again)

files_told : (Inner : List ℕ → List ℕ → Type 0) → (deep : ℕ) → InnerLaws Inner deep → (size : ℕ) → (done : List NewFile) (pads : List (List NewFile)) (files : List NewFile) (texts : List (List ℕ)) (lines : List (List ℕ)) (called : Option VolumeName)
    → length pads ≡ length files → AllByRecursion (AllByRecursion IsGoodPad) pads → All IsFileOfBytes files → AreEach (IsFileText Inner) files texts → SayFiles deep size lines called done
    → TellsFiles Inner deep size done pads files lines called (with_pads pads texts)
files_told Inner deep laws size done [] [] [] lines called long pads_fit fits are say = record {
  told = record { lines = []; has = has_none };
  again = [];
  each = tt;
  say = subst (λ (ls : List (List ℕ)). SayFiles deep size ls called (done ++ [])) (sym (append-nil lines)) (subst (λ (fs : List NewFile). SayFiles deep size lines called fs) (sym (append-nil done)) say);
}
files_told Inner deep laws size done [] [] (t ∷ texts) lines called long pads_fit fits are say = absurd are
files_told Inner deep laws size done [] (one ∷ files) texts lines called long pads_fit fits are say = absurd (omega (arith, long))
files_told Inner deep laws size done (p ∷ pads) [] texts lines called long pads_fit fits are say = absurd (omega (arith, long))
files_told Inner deep laws size done (p ∷ pads) (one ∷ files) [] lines called long pads_fit fits are say = absurd are
files_told Inner deep laws size done (p ∷ pads) (one ∷ files) (text ∷ texts) lines called long pads_fit fits are say =
    let front = pads_told deep size lines called done p pads_fit.0 say in
    let first = file_told Inner deep laws size one (lines ++ front.told.lines) called (done ++ p) text (All-head IsFileOfBytes one files fits) are.0 front.say in
    let rest = files_told Inner deep laws size ((done ++ p) ++ first.again ∷ []) pads files texts ((lines ++ front.told.lines) ++ first.told.lines) called (omega (arith, long)) pads_fit.1
    (All-tail IsFileOfBytes one files fits) are.1 first.say in
    let behind = has_both text (with_pads pads texts) first.told.lines rest.told.lines first.told.has rest.told.has in
    record {
      told = record {
        lines = front.told.lines ++ (first.told.lines ++ rest.told.lines);
        has = has_both (flat_map pad_text p) (text ++ with_pads pads texts) front.told.lines (first.told.lines ++ rest.told.lines) front.told.has behind;
      };
      again = first.again ∷ rest.again;
      each = (first.is, rest.each);
      say = subst (λ (ls : List (List ℕ)). SayFiles deep size ls called (done ++ (p ++ (first.again ∷ among pads rest.again)))) (four lines front.told.lines first.told.lines rest.told.lines)
          (subst (λ (fs : List NewFile). SayFiles deep size (((lines ++ front.told.lines) ++ first.told.lines) ++ rest.told.lines) called fs) (four done p (first.again ∷ []) (among pads rest.again)) rest.say);
    }

-- the line of a name, if there is one
record TellsName (deep size : ℕ) (called : Option VolumeName) : Type 0 where
  lines : List (List ℕ)
  has : Has (name_line called) lines
  say : SayFiles deep size lines called []

name_told : (deep size : ℕ) (called : Option VolumeName) → IsNameOfBytes called → is_placed size called ≡ true → TellsName deep size called
name_told deep size None fits placed = record { lines = []; has = has_none; say = no_file }
name_told deep size (Some name) fits placed =
    let l = name_says name fits.0 fits.1 fits.2 (least_size size name placed) in
    record { lines = name_text name ∷ []; has = has_line (name_text name) l.is; say = named [] [] (name_text name) name no_file l.says placed }

-- lines say a volume of this form, length and name with these files again, each behind these pads, and with volumes in it at most so many levels deep
pub record TellsVolume (Inner : List ℕ → List ℕ → Type 0) (deep : ℕ) (form : VolumeForm) (len : ℕ) (called : Option VolumeName) (pads : List (List NewFile)) (files : List NewFile) (text : List ℕ) : Type 0 where
  pub again : List NewFile
  pub files_are : AreEach (IsFileAgain Inner) files again
  pub volume : OpenVolume
  pub volume_is : volume ≡ record { form = form; len = len; name = called; files = among pads again }
  pub describes : SaysOpen deep (map (λ l. l.1) (numbered text)) volume

-- a volume's text
pub volume_told : (Inner : List ℕ → List ℕ → Type 0) → (deep : ℕ) → InnerLaws Inner deep → (form : VolumeForm) (len : ℕ) (called : Option VolumeName) (pads : List (List NewFile)) (files : List NewFile) (text : List ℕ) → is_length len ≡ true → form.attributes < 2 ^ 32
    → is_header len form.header_len ≡ true → is_placed form.header_len called ≡ true → IsNameOfBytes called → length pads ≡ length files → AllByRecursion (AllByRecursion IsGoodPad) pads → All IsFileOfBytes files → IsVolumeText Inner form len called pads files text
    → TellsVolume Inner deep form len called pads files text
volume_told Inner deep laws form len called pads files text long fits header_fits placed name_fits as_many pads_fit files_fit is =
    let head = volume_text form len in
    let l = volume_says form len long fits header_fits in
    let n = name_told deep form.header_len called name_fits placed in
    let more = files_told Inner deep laws form.header_len [] pads files is.0 n.lines called as_many pads_fit files_fit is.1 n.say in
    let body = with_pads pads is.0 in
    let inner = n.lines ++ more.told.lines in
    let all = head ∷ (inner ++ codes "end" ∷ []) in
    let last = has_line (codes "end") end_says.is in
    let behind : Has (name_line called ++ (body ++ line (codes "end"))) (inner ++ codes "end" ∷ []) =
    subst (λ (ls : List (List ℕ)). Has (name_line called ++ (body ++ line (codes "end"))) ls) (sym (append_assoc n.lines more.told.lines (codes "end" ∷ [])))
    (has_both (name_line called) (body ++ line (codes "end")) n.lines (more.told.lines ++ codes "end" ∷ []) n.has (has_both body (line (codes "end")) more.told.lines (codes "end" ∷ []) more.told.has last)) in
    let has : Has text all =
    subst (λ (t : List ℕ). Has t all) (sym is.2) (has_both (line head) (name_line called ++ (body ++ line (codes "end"))) (head ∷ []) (inner ++ codes "end" ∷ []) (has_line head l.is) behind) in
    let one : OpenVolume = record { form = form; len = len; name = called; files = among pads more.again } in
    let here : map (λ (l : ℕ × List ℕ). l.1) (numbered text) ≡ all = has_all text all has in
    record {
      again = more.again;
      files_are = more.each;
      volume = one;
      volume_is = refl;
      describes = record { line = head; inner = inner; end = codes "end"; here = here; begins = l.says; files = more.say; ends = end_says.says };
    }

-- a volume's text ends with a line feed
pub ends_so : (head name body : List ℕ) (text : List ℕ) → text ≡ head ++ (name ++ (body ++ line (codes "end"))) → (front : List ℕ) × (text ≡ front ++ 10 ∷ [])
ends_so head name body text is = (
  head ++ (name ++ (body ++ codes "end")),
  is ∙ sym (append_assoc head (name ++ (body ++ codes "end")) (10 ∷ []) ∙ ap (λ t. head ++ t) (append_assoc name (body ++ codes "end") (10 ∷ []) ∙ ap (λ t. name ++ t) (append_assoc body (codes "end") (10 ∷ [])))),
)
