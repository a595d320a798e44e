-- A volume has one text.
use Rattle.std.proofs.Common.{◌≡◌, inl, inr, ℕ, zero, suc, ◌<◌, ◌%◌, Bool, true, false, ◌&&◌, List, [], ◌∷◌, ◌++◌, length, map, take, drop, Option, Some, None, refl, sym, ap, ◌∙◌, subst, arith, ◌-◌, ◌==◌, IfOk, Result, Ok, Err}
use Rattle.std.proofs.{lemmas.Bool.and_parts, lemmas.Bool.Decides.nat_tests, lemmas.Option.same_Some}
use Rattle.pi_base.specs.{declared.memory.OutOfMemory.OutOfMemory, declared.guid.Guid.Guid, declared.phase.Phase.Phase}
use Rattle.fv_volume.specs.{declared.file.FfsFile.FfsFile, declared.volume.Volume.Volume, Volume.IsVolume}
use Rattle.fv_volume.specs.{declared.sections.section.Section.Section, declared.sections.fault.SecFault.SecFault}
use Rattle.fv_volume.specs.{Stream.AreSections, Stream.IsFirstFault, declared.build.attributes.FileAttributes.FileAttributes}
use Rattle.fv_volume.specs.{declared.build.file_system.FileSystem.FileSystem, declared.build.new_file.NewFile.NewFile}
use Rattle.fv_volume.specs.{declared.build.new_file.NewSection.NewSection, declared.build.new_file.Body.Body}
use Rattle.fv_volume.specs.declared.build.new_file.Body.TheVariants.{Sections, Bytes}
use Rattle.fv_volume.specs.Reading.{AreEach}
use Rattle.depex_code.specs.{declared.depex.Depex.Depex, Expression.Reads}
use Rattle.act_code.specs.{declared.script.Script.Script, Script.IsScript}
use Rattle.volume_text.specs.Text.{Leads}
use Rattle.volume_print.specs.declared.form.Host.{Host}
use Rattle.volume_print.specs.Spelling.{SaysExpression, is_a_priori, is_guid_list, holds_volume, expression_line, script_lines, ui_line, IsSectionText, as_volume, as_expression, as_guids, as_script, as_name, as_bytes, AreSectionTexts, whole, with_pads, IsBodyText, head_line, host_of, IsFileText, volume_line, name_line}
use Rattle.volume_print.specs.Description.{section_in, LieAsBuilt, IsNoStream, IsBodyIn, IsFileIn, form_in, name_in, IsSpelled, pads_of, IsTextBy, IsInner, IsTextOf}
use Rattle.volume_print.specs.Finding.{depex_phase, FindsVolume, FindsText, TellsVolume}
use Rattle.volume_text.proofs.WideNames.{one_name}
use Rattle.volume_print.proofs.{Forms.phase_of, Forms.no_phase, Putting.told_inside}

-- what holds of the parts
pub record Laws : Type 0 where
  pub volume : (image : List ℕ) (a b : Volume) → IsVolume image a → IsVolume image b → a ≡ b
  pub sections : (stream : List ℕ) (a b : List Section) → AreSections stream a → AreSections stream b → a ≡ b
  pub apart : (stream : List ℕ) (a : List Section) (b : SecFault) → AreSections stream a → IsFirstFault stream b → ⊥
  pub expression : (phase : Phase) (code : List ℕ) (e f : Depex) → Reads phase code e → Reads phase code f → e ≡ f
  pub script : (code : List ℕ) (s t : Script) → IsScript code s → IsScript code t → s ≡ t

-- the text of an expression
one_expression : Laws → (kind : ℕ) (before : List NewSection) (section : NewSection) (p q : Phase) (e f : Depex) → SaysExpression kind before section p e → SaysExpression kind before section q f → expression_line p e ≡ expression_line q f
one_expression laws kind before section p q e f x y =
    let phases : p ≡ q = same_Some p q (sym (phase_of kind before section p e x) ∙ phase_of kind before section q f y) in
    let there : Reads q section.body e = subst (λ (r : Phase). Reads r section.body e) phases x.bytes.0 in
    ap (λ r. expression_line r e) phases ∙ ap (expression_line q) (laws.expression q section.body e f there y.bytes.0)

-- a section is told in one form alone
volume_kind : (host : Host) (kind : ℕ) → holds_volume host kind ≡ true → kind ≡ 23
volume_kind host kind holds = let test : (kind == 23) ≡ true = (and_parts (host.kind == 11) (kind == 23) holds).1 in grind (arith, nat_tests)

list_kind : (host : Host) (section : NewSection) → is_guid_list host section ≡ true → section.kind ≡ 25
list_kind host section is =
    let raw = and_parts (is_a_priori host) ((section.kind == 25) && (length section.body % 16 == 0)) is in
    let test : (section.kind == 25) ≡ true = (and_parts (section.kind == 25) (length section.body % 16 == 0) raw.1).0 in
    grind (arith, nat_tests)

no_expression : (kind other : ℕ) (before : List NewSection) (section : NewSection) (p : Phase) (e : Depex) → section.kind ≡ other → depex_phase other ≡ None → SaysExpression kind before section p e → ⊥
no_expression kind other before section p e is none x = no_phase section.kind p (ap depex_phase is ∙ none) (phase_of kind before section p e x)

clash : (test : Bool) → test ≡ true → test ≡ false → ⊥
clash true a b = absurd cc
clash false a b = absurd cc

differ : (kind : ℕ) → kind ≡ 23 → kind ≡ 25 → ⊥
differ kind a b = absurd (omega (arith, a, b))

no_name : (kind other : ℕ) → kind ≡ other → kind ≡ 21 → 21 < other → ⊥
no_name kind other a b more = absurd (omega (arith, a, b, more))

-- bytes have one text inside
abbrev OneInner : (List ℕ → List ℕ → Type 0) → Type 0
OneInner Inner = (stream a b : List ℕ) → Inner stream a → Inner stream b → a ≡ b

section_one : Laws → (Inner : List ℕ → List ℕ → Type 0) → OneInner Inner → (host : Host) (before : List NewSection) (section : NewSection) (a b : List ℕ)
    → IsSectionText Inner host before section a → IsSectionText Inner host before section b → a ≡ b
section_one laws Inner one host before section a b (as_volume x) (as_volume y) = one section.body a b x.1 y.1
section_one laws Inner one host before section a b (as_volume x) (as_expression q f y j) = absurd (no_expression host.kind 23 before section q f (volume_kind host section.kind x.0) refl y)
section_one laws Inner one host before section a b (as_volume x) (as_guids y j) = absurd (differ section.kind (volume_kind host section.kind x.0) (list_kind host section y))
section_one laws Inner one host before section a b (as_volume x) (as_script s y j) = absurd (differ section.kind (volume_kind host section.kind x.0) y.kind_is)
section_one laws Inner one host before section a b (as_volume x) (as_name d y j) = absurd (no_name section.kind 23 (volume_kind host section.kind x.0) y.0 (omega arith))
section_one laws Inner one host before section a b (as_volume x) (as_bytes v n l m u j) = absurd (v a x)
section_one laws Inner one host before section a b (as_expression p e x i) (as_volume y) = absurd (no_expression host.kind 23 before section p e (volume_kind host section.kind y.0) refl x)
section_one laws Inner one host before section a b (as_expression p e x i) (as_expression q f y j) = i ∙ one_expression laws host.kind before section p q e f x y ∙ sym j
section_one laws Inner one host before section a b (as_expression p e x i) (as_guids y j) = absurd (no_expression host.kind 25 before section p e (list_kind host section y) refl x)
section_one laws Inner one host before section a b (as_expression p e x i) (as_script s y j) = absurd (no_expression host.kind 25 before section p e y.kind_is refl x)
section_one laws Inner one host before section a b (as_expression p e x i) (as_name d y j) = absurd (no_expression host.kind 21 before section p e y.0 refl x)
section_one laws Inner one host before section a b (as_expression p e x i) (as_bytes v n l m u j) = absurd (n p e x)
section_one laws Inner one host before section a b (as_guids x i) (as_volume y) = absurd (differ section.kind (volume_kind host section.kind y.0) (list_kind host section x))
section_one laws Inner one host before section a b (as_guids x i) (as_expression q f y j) = absurd (no_expression host.kind 25 before section q f (list_kind host section x) refl y)
section_one laws Inner one host before section a b (as_guids x i) (as_guids y j) = i ∙ sym j
section_one laws Inner one host before section a b (as_guids x i) (as_script s y j) = absurd (clash (is_guid_list host section) x y.no_list)
section_one laws Inner one host before section a b (as_guids x i) (as_name d y j) = absurd (no_name section.kind 25 (list_kind host section x) y.0 (omega arith))
section_one laws Inner one host before section a b (as_guids x i) (as_bytes v n l m u j) = absurd (clash (is_guid_list host section) x l)
section_one laws Inner one host before section a b (as_script s x i) (as_volume y) = absurd (differ section.kind (volume_kind host section.kind y.0) x.kind_is)
section_one laws Inner one host before section a b (as_script s x i) (as_expression q f y j) = absurd (no_expression host.kind 25 before section q f x.kind_is refl y)
section_one laws Inner one host before section a b (as_script s x i) (as_guids y j) = absurd (clash (is_guid_list host section) y x.no_list)
section_one laws Inner one host before section a b (as_script s x i) (as_script t y j) = i ∙ ap script_lines (laws.script section.body s t x.bytes y.bytes) ∙ sym j
section_one laws Inner one host before section a b (as_script s x i) (as_name d y j) = absurd (no_name section.kind 25 x.kind_is y.0 (omega arith))
section_one laws Inner one host before section a b (as_script s x i) (as_bytes v n l m u j) = absurd (m s x)
section_one laws Inner one host before section a b (as_name c x i) (as_volume y) = absurd (no_name section.kind 23 (volume_kind host section.kind y.0) x.0 (omega arith))
section_one laws Inner one host before section a b (as_name c x i) (as_expression q f y j) = absurd (no_expression host.kind 21 before section q f x.0 refl y)
section_one laws Inner one host before section a b (as_name c x i) (as_guids y j) = absurd (no_name section.kind 25 (list_kind host section y) x.0 (omega arith))
section_one laws Inner one host before section a b (as_name c x i) (as_script t y j) = absurd (no_name section.kind 25 y.kind_is x.0 (omega arith))
section_one laws Inner one host before section a b (as_name c x i) (as_name d y j) = i ∙ ap ui_line (one_name section.body c d x.1 y.1) ∙ sym j
section_one laws Inner one host before section a b (as_name c x i) (as_bytes v n l m u j) = absurd (u c x)
section_one laws Inner one host before section a b (as_bytes v n l m u i) (as_volume y) = absurd (v b y)
section_one laws Inner one host before section a b (as_bytes v n l m u i) (as_expression q f y j) = absurd (n q f y)
section_one laws Inner one host before section a b (as_bytes v n l m u i) (as_guids y j) = absurd (clash (is_guid_list host section) y l)
section_one laws Inner one host before section a b (as_bytes v n l m u i) (as_script t y j) = absurd (m t y)
section_one laws Inner one host before section a b (as_bytes v n l m u i) (as_name d y j) = absurd (u d y)
section_one laws Inner one host before section a b (as_bytes v n l m u i) (as_bytes w o k r z j) = i ∙ sym j

cons : {A : Type 0} (x y : A) (xs ys : List A) → x ≡ y → xs ≡ ys → x ∷ xs ≡ y ∷ ys
cons x y xs ys e f = ap (λ z. z ∷ xs) e ∙ ap (λ zs. y ∷ zs) f

sections_one : Laws → (Inner : List ℕ → List ℕ → Type 0) → OneInner Inner → (host : Host) (before sections : List NewSection) (xs bs : List (List ℕ))
    → AreSectionTexts Inner host before sections xs → AreSectionTexts Inner host before sections bs → xs ≡ bs
sections_one laws Inner one host before [] [] [] x y = refl
sections_one laws Inner one host before [] (a ∷ xs) bs x y = absurd x
sections_one laws Inner one host before [] [] (b ∷ bs) x y = absurd y
sections_one laws Inner one host before (s ∷ sections) [] bs x y = absurd x
sections_one laws Inner one host before (s ∷ sections) (a ∷ xs) [] x y = absurd y
sections_one laws Inner one host before (s ∷ sections) (a ∷ xs) (b ∷ bs) x y =
    cons a b xs bs (section_one laws Inner one host before s a b x.0 y.0) (sections_one laws Inner one host (before ++ s ∷ []) sections xs bs x.1 y.1)

body_text_one : Laws → (Inner : List ℕ → List ℕ → Type 0) → OneInner Inner → (host : Host) (body : Body) (a b : List ℕ) → IsBodyText Inner host body a → IsBodyText Inner host body b → a ≡ b
body_text_one laws Inner one host (Sections sections) a b x y = x.2 ∙ ap whole (sections_one laws Inner one host [] sections x.0 y.0 x.1 y.1) ∙ sym y.2
body_text_one laws Inner one host (Bytes stream) a b x y = x ∙ sym y

file_text_one : Laws → (Inner : List ℕ → List ℕ → Type 0) → OneInner Inner → (file : NewFile) (a b : List ℕ) → IsFileText Inner file a → IsFileText Inner file b → a ≡ b
file_text_one laws Inner one file a b x y =
    x.2 ∙ ap (λ body. head_line file.kind file.name file.attributes ++ body) (body_text_one laws Inner one (host_of file) file.body x.0 y.0 x.1 y.1) ∙ sym y.2

-- a body is one
raw_or_not : (kind : ℕ) → (kind == 1) ≡ false → kind ≡ 1 → ⊥
raw_or_not kind other is = let e : false ≡ true = sym other ∙ ap (λ k. k == 1) is in absurd cc

no_stream : Laws → (file_system : FileSystem) (kind : ℕ) (stream : List ℕ) (read : List Section) → (kind == 1) ≡ false → AreSections stream read → LieAsBuilt file_system stream read
    → IsNoStream file_system kind stream → ⊥
no_stream laws file_system kind stream read other are lie (inl is) = raw_or_not kind other is
no_stream laws file_system kind stream read other are lie (inr (inl wrong)) = laws.apart stream read wrong.0 are wrong.1
no_stream laws file_system kind stream read other are lie (inr (inr elsewhere)) =
    elsewhere.2 (subst (λ (ss : List Section). LieAsBuilt file_system stream ss) (laws.sections stream read elsewhere.0 are elsewhere.1) lie)

body_one : Laws → (file_system : FileSystem) (kind : ℕ) (stream : List ℕ) (a b : Body) → IsBodyIn file_system kind stream a → IsBodyIn file_system kind stream b → a ≡ b
body_one laws file_system kind stream (Sections xs) (Sections bs) x y =
    ap Sections (x.1.3 ∙ ap (map (section_in stream)) (laws.sections stream x.1.0 y.1.0 x.1.1 y.1.1) ∙ sym y.1.3)
body_one laws file_system kind stream (Sections xs) (Bytes b) x y = absurd (no_stream laws file_system kind stream x.1.0 x.0 x.1.1 x.1.2 y.1)
body_one laws file_system kind stream (Bytes a) (Sections bs) x y = absurd (no_stream laws file_system kind stream y.1.0 y.0 y.1.1 y.1.2 x.1)
body_one laws file_system kind stream (Bytes a) (Bytes b) x y = ap Bytes (x.0 ∙ sym y.0)

abbrev of : Guid × ℕ × FileAttributes × Body → NewFile
of x = record { name = x.0; kind = x.1; attributes = x.2; body = x.3 }

file_one : Laws → (file_system : FileSystem) (image : List ℕ) (found : FfsFile) (a b : NewFile) → IsFileIn file_system image found a → IsFileIn file_system image found b → a ≡ b
file_one laws file_system image found a b x y =
    let name : a.name ≡ b.name = x.name ∙ sym y.name in
    let kind : a.kind ≡ b.kind = x.kind ∙ sym y.kind in
    let attributes : a.attributes ≡ b.attributes = x.attributes ∙ sym y.attributes in
    let body : a.body ≡ b.body = body_one laws file_system found.kind (take found.body_len (drop found.body_at image)) a.body b.body x.body y.body in
    ap (λ n. of (n, a.kind, a.attributes, a.body)) name ∙ ap (λ k. of (b.name, k, a.attributes, a.body)) kind
    ∙ ap (λ t. of (b.name, b.kind, t, a.body)) attributes ∙ ap (λ t. of (b.name, b.kind, b.attributes, t)) body

each_one : {A B : Type 0} (Is : A → B → Type 0) → ((a : A) (b c : B) → Is a b → Is a c → b ≡ c) → (xs : List A) (ys zs : List B) → AreEach Is xs ys → AreEach Is xs zs → ys ≡ zs
each_one Is one [] [] [] x y = refl
each_one Is one [] (b ∷ ys) zs x y = absurd x
each_one Is one [] [] (c ∷ zs) x y = absurd y
each_one Is one (a ∷ xs) [] zs x y = absurd x
each_one Is one (a ∷ xs) (b ∷ ys) [] x y = absurd y
each_one Is one (a ∷ xs) (b ∷ ys) (c ∷ zs) x y = cons b c ys zs (one a b c x.0 y.0) (each_one Is one xs ys zs x.1 y.1)

text_by_one : Laws → (Inner : List ℕ → List ℕ → Type 0) → OneInner Inner → (image : List ℕ) (volume : Volume) (a b : List ℕ)
    → IsTextBy Inner image volume a → IsTextBy Inner image volume b → a ≡ b
text_by_one laws Inner one image volume a b x y =
    let file_system = (form_in image).file_system in
    let files : y.files ≡ x.files = each_one (IsFileIn file_system image) (file_one laws file_system image) volume.files y.files x.files y.are x.are in
    let called = name_in image volume.name in
    let pads = pads_of image volume x.files in
    let told : IsSpelled Inner image volume x.files b = subst (λ (fs : List NewFile). IsSpelled Inner image volume fs b) files y.spelled in
    let first = x.spelled in
    let texts : first.0 ≡ told.0 = each_one (IsFileText Inner) (file_text_one laws Inner one) x.files first.0 told.0 first.1 told.1 in
    first.2
    ∙ ap (λ ts. volume_line (form_in image) volume.len ++ (name_line called ++ (with_pads pads ts ++ (101 ∷ (110 ∷ (100 ∷ (10 ∷ []))))))) texts
    ∙ sym told.2

-- bytes that stand inside as a volume have one text
inner_one : Laws → (deep : ℕ) → OneInner (IsInner deep)
inner_one laws zero stream a b x y = absurd x
inner_one laws (suc deep) stream a b x y =
    let volumes : y.volume ≡ x.volume = laws.volume stream y.volume x.volume y.is x.is in
    text_by_one laws (IsInner deep) (inner_one laws deep) stream x.volume a b x.told (subst (λ (v : Volume). IsTextBy (IsInner deep) stream v b) volumes y.told)

pub one_text_by : Laws → (deep : ℕ) (image : List ℕ) (volume : Volume) (a b : List ℕ) → IsTextBy (IsInner deep) image volume a → IsTextBy (IsInner deep) image volume b → a ≡ b
one_text_by laws deep image volume a b x y = text_by_one laws (IsInner deep) (inner_one laws deep) image volume a b x y

pub one_text : Laws → (image a b : List ℕ) → IsTextOf image a → IsTextOf image b → a ≡ b
one_text laws image a b x y =
    let volumes : y.volume ≡ x.volume = laws.volume image y.volume x.volume y.is x.is in
    one_text_by laws 3 image x.volume a b x.told (subst (λ (v : Volume). IsTextBy (IsInner 3) image v b) volumes y.told)

-- a volume whose text makes none is told as no volume
pub not_told : ((image : List ℕ) (a b : Volume) → IsVolume image a → IsVolume image b → a ≡ b)
    → ((deep : ℕ) (image : List ℕ) (volume : Volume) (a b : List ℕ) → IsTextBy (IsInner deep) image volume a → IsTextBy (IsInner deep) image volume b → a ≡ b)
    → (deep : ℕ) (host : Host) (section : NewSection) (volume : Volume) (text : List ℕ) → FindsVolume section.body (Some volume) → IsTextBy (IsInner deep) section.body volume text
    → FindsText (length section.body) text None → TellsVolume (IsInner (suc deep)) host section None
not_told one_volume one_by deep host section volume text found told none = λ other says.
    let inside = says.1 in
    let volumes : inside.volume ≡ volume = one_volume section.body inside.volume volume inside.is found.0 in
    let same : other ≡ text = one_by deep section.body volume other text (subst (λ (v : Volume). IsTextBy (IsInner deep) section.body v other) volumes inside.told) told in
    none inside.again (subst (λ (t : List ℕ). Leads t inside.again) same inside.leads) inside.long

-- the bytes are no volume from the first to the last
pub no_other : ((image : List ℕ) (a b : Volume) → IsVolume image a → IsVolume image b → a ≡ b) → (image : List ℕ) (read : Volume) → IsVolume image read → (read.len ≡ length image → ⊥)
    → FindsVolume image None
no_other one image read is other = λ volume also all. other (ap (λ (v : Volume). v.len) (one image read volume is also) ∙ all)

-- a text makes no volume of another length than that of the one it makes
pub no_volume_so_long : ((text a b : List ℕ) → Leads text a → Leads text b → a ≡ b) → (len : ℕ) (text again : List ℕ) → Leads text again → (length again ≡ len → ⊥) → FindsText len text None
no_volume_so_long one len text again leads other = λ bytes also long. other (ap length (one text again bytes leads also) ∙ long)

-- a volume that stands inside, by whether a volume is made of its text
pub told_or_not : ((image : List ℕ) (a b : Volume) → IsVolume image a → IsVolume image b → a ≡ b)
    → ((deep : ℕ) (image : List ℕ) (volume : Volume) (a b : List ℕ) → IsTextBy (IsInner deep) image volume a → IsTextBy (IsInner deep) image volume b → a ≡ b)
    → (deep : ℕ) (host : Host) (section : NewSection) (volume : Volume) (text : List ℕ) (r : Result (Option (List ℕ)) OutOfMemory) → (deep ≡ 0 → ⊥) → holds_volume host section.kind ≡ true
    → FindsVolume section.body (Some volume) → IsTextBy (IsInner (deep - 1)) section.body volume text → IfOk r (FindsText (length section.body) text) → IfOk r (TellsVolume (IsInner deep) host section)
told_or_not one by zero host section volume text r some holds found told again = absurd (some refl)
told_or_not one by (suc deep) host section volume text (Ok (Some same)) some holds found told again =
    let e : suc deep - 1 ≡ deep = omega arith in
    told_inside deep host section volume text same holds found (subst (λ n. IsTextBy (IsInner n) section.body volume text) e told) again
told_or_not one by (suc deep) host section volume text (Ok None) some holds found told again =
    let e : suc deep - 1 ≡ deep = omega arith in
    not_told one by deep host section volume text found (subst (λ n. IsTextBy (IsInner n) section.body volume text) e told) again
told_or_not one by (suc deep) host section volume text (Err e) some holds found told again = again
