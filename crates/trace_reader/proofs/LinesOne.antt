-- No two readable lines have one text.
use Rattle.std.proofs.Common.{◌≡◌, ◌++◌, ℕ, List, [], ◌∷◌, refl, sym, ap, ◌∙◌, flat_map, subst, get_or, true, false, append-nil, arith, drop}
use Rattle.std.specs.List.{AllByRecursion}
use Rattle.hex.specs.Hex.{encode_lower}
use Rattle.boot_io.specs.Line.{spaced}
use Rattle.boot_model.specs.{declared.line.Line.Line, declared.line.CallName.CallName, declared.line.Extra.Extra}
use Rattle.boot_model.specs.declared.line.Line.TheVariants as L
use Rattle.boot_model.specs.declared.line.CallName.TheVariants as C
use Rattle.boot_model.specs.declared.line.Extra.TheVariants as E
use Rattle.pi_base.specs.{declared.word.Word.Word, WordText.hexadecimal, WordText.word_text}
use Rattle.boot_model.specs.Text.{keyword, words, call_text, extra_words}
use Rattle.line_words.specs.PrintedWords.{IsPlain}
use Rattle.trace_reader.specs.Readable.{IsReadable, IsExtra, shows_number}
use Rattle.trace_reader.proofs.Splits.{same_front, same_back, behind_is, tail_of}
use Rattle.boot_trace.proofs.FixedWords.{licence_text_one, word_text_one, reason_text_one, end_text_one, plan_cause_text_one, image_cause_text_one, call_text_one}
use Rattle.trace_reader.proofs.FieldsOne.{wide_one, decimal_one, hexadecimal_one, guid_one, by_one, rank_one, name_one, kind_one, expression_one, encoded_one, bytes_one}
use Rattle.trace_reader.proofs.LineBodies.{plain_words}
use Rattle.trace_reader.proofs.Forms.{Form, Parts, form, parts, made, made_back, form_one, OfReport, OfDxeVolume, OfPeiStart, OfDxeStart, OfNotifyCallback, OfNotifyDispatch, OfNotifyProtocol, OfEnd, OfPeiStop, OfDxeStop, OfWaiting, OfHandoff, OfResult, OfMigrate, OfCoreInstall, OfPpis, OfCallbacks, OfDispatches, OfPendings, OfHobs, OfHandles, OfPpi, OfCallback, OfDispatch, OfPending, OfHandle, OfVolume, OfModule, OfRefusedUsage, OfRefusedPlan, OfRefusedImage, OfCall, OfLog, OfHob, OfRefusedFile, OfRefusedLong}

-- the words of a text, each after a space, are one list
words_one : (ws vs : List (List ℕ)) → AllByRecursion IsPlain ws → AllByRecursion IsPlain vs → flat_map spaced ws ≡ flat_map spaced vs → ws ≡ vs
words_one [] [] plain too is = refl
words_one [] (v ∷ vs) plain too is = let never : [] ≡ 32 ∷ (v ++ flat_map spaced vs) = is in cc
words_one (w ∷ ws) [] plain too is = let never : 32 ∷ (w ++ flat_map spaced ws) ≡ [] = is in cc
words_one (w ∷ ws) (v ∷ vs) plain too is =
    let text : w ++ flat_map spaced ws ≡ v ++ flat_map spaced vs = tail_of 32 _ _ is in
    let first = same_front w v ws vs plain.0 too.0 text in
    let rest = words_one ws vs plain.1 too.1 (same_back w v ws vs plain.0 too.0 text) in
    rw (first, rest) refl

-- behind one keyword
behind_one : (keyword : List ℕ) (ws vs : List (List ℕ)) → AllByRecursion IsPlain ws → AllByRecursion IsPlain vs → keyword ++ flat_map spaced ws ≡ keyword ++ flat_map spaced vs → ws ≡ vs
behind_one keyword ws vs plain too is = words_one ws vs plain too (behind_is (keyword ++ flat_map spaced ws) keyword (flat_map spaced ws) (flat_map spaced vs) refl is)

word_one : (keyword word other : List ℕ) → keyword ++ flat_map spaced (word ∷ []) ≡ keyword ++ flat_map spaced (other ∷ []) → word ≡ other
word_one keyword word other is =
    let text = tail_of 32 _ _ (behind_is (keyword ++ flat_map spaced (word ∷ [])) keyword (flat_map spaced (word ∷ [])) (flat_map spaced (other ∷ [])) refl is) in
    sym (append-nil word) ∙ text ∙ append-nil other

abbrev nth : ℕ → List (List ℕ) → List ℕ
nth k ws = get_or ws k []

-- what an action shows
peeks_no_number : (name : CallName) → shows_number name ≡ true → name ≡ C.Peek → ⊥
peeks_no_number name shows is = let never : shows_number C.Peek ≡ true = rw is at shows in let no_number : false ≡ true = never in cc

extra_one : (name : CallName) (status : Word) (a b : Extra) → IsExtra name status a → IsExtra name status b → extra_words a ≡ extra_words b → a ≡ b
extra_one name status E.Nothing E.Nothing fits fit is = refl
extra_one name status E.Nothing (E.Number n) fits fit is = let never : [] ≡ hexadecimal n ∷ [] = is in cc
extra_one name status E.Nothing (E.Bytes bytes) fits fit is = let never : [] ≡ encode_lower bytes.items ∷ [] = is in cc
extra_one name status (E.Number n) E.Nothing fits fit is = let never : hexadecimal n ∷ [] ≡ [] = is in cc
extra_one name status (E.Number m) (E.Number n) fits fit is = ap E.Number (hexadecimal_one m n fits.2 fit.2 (ap (nth 0) is))
extra_one name status (E.Number n) (E.Bytes bytes) fits fit is = absurd (peeks_no_number name fits.1 fit.1)
extra_one name status (E.Bytes bytes) E.Nothing fits fit is = let never : encode_lower bytes.items ∷ [] ≡ [] = is in cc
extra_one name status (E.Bytes bytes) (E.Number n) fits fit is = absurd (peeks_no_number name fit.1 fits.1)
extra_one name status (E.Bytes a) (E.Bytes b) fits fit is = ap (λ items. E.Bytes (record { items = items })) (encoded_one a.items b.items fits.2.2 fit.2.2 (ap (nth 0) is))

call_one : (m n : CallName) (s t : Word) (x y : Extra) → IsExtra m s x → IsExtra n t y → call_text m ∷ word_text s ∷ extra_words x ≡ call_text n ∷ word_text t ∷ extra_words y
    → L.Call m s x ≡ L.Call n t y
call_one m n s t x y fits fit ws =
    let name : m ≡ n = call_text_one m n (ap (nth 0) ws) in
    let status : s ≡ t = word_text_one s t (ap (nth 1) ws) in
    let fits_too : IsExtra n t x = rw (name, status) at fits in
    let extra : x ≡ y = extra_one n t x y fits_too fit (ap (drop 2) ws) in
    rw (name, status, extra) refl

-- lines of one form have one keyword
same_keyword : (of : Form) (x y : Parts of) → keyword (made of x) ≡ keyword (made of y)
unfolding keyword
same_keyword OfReport x y = refl
same_keyword _ x y = refl

-- and where their texts are the same, so are their words
one_word : (k l word other : List ℕ) → k ≡ l → k ++ flat_map spaced (word ∷ []) ≡ l ++ flat_map spaced (other ∷ []) → word ∷ [] ≡ other ∷ []
one_word k l word other same is = ap (λ w. w ∷ []) (word_one k word other (is ∙ ap (λ front. front ++ flat_map spaced (other ∷ [])) (sym same)))

same_words : (of : Form) (x y : Parts of) → IsReadable (made of x) → IsReadable (made of y)
    → keyword (made of x) ++ flat_map spaced (words (made of x)) ≡ keyword (made of y) ++ flat_map spaced (words (made of y)) → words (made of x) ≡ words (made of y)
same_words OfLog x y p q is = one_word (keyword (L.Log x)) (keyword (L.Log y)) x.items y.items (same_keyword OfLog x y) is
same_words OfRefusedFile x y p q is = one_word (keyword (L.RefusedFile x)) (keyword (L.RefusedFile y)) x y (same_keyword OfRefusedFile x y) is
same_words OfRefusedLong x y p q is = one_word (keyword (L.RefusedLong x)) (keyword (L.RefusedLong y)) x y (same_keyword OfRefusedLong x y) is
same_words of x y p q is =
    behind_one (keyword (made of x)) (words (made of x)) (words (made of y)) (plain_words (made of x) p) (plain_words (made of y) q)
    (is ∙ ap (λ front. front ++ flat_map spaced (words (made of y))) (same_keyword of y x))

-- two lines of one form and with the same words are one
one_of : (of : Form) (x y : Parts of) → IsReadable (made of x) → IsReadable (made of y)
    → words (made of x) ≡ words (made of y) → made of x ≡ made of y
one_of OfReport x y p q ws = ap L.Report (decimal_one x y p q (ap (nth 0) ws))
one_of OfDxeVolume x y p q ws = ap L.DxeVolume (decimal_one x y p q (ap (nth 0) ws))
one_of OfPeiStart x y p q ws = let e0 : x.0 ≡ y.0 = (decimal_one x.0 y.0 p.0 q.0 (ap (nth 0) ws)) in let e1 : x.1 ≡ y.1 = (guid_one x.1 y.1 p.1 q.1 (ap (nth 1) ws)) in let e2 : x.2 ≡ y.2 = (licence_text_one x.2 y.2 (ap (nth 2) ws)) in rw (e0, e1, e2) refl
one_of OfDxeStart x y p q ws = let e0 : x.0 ≡ y.0 = (decimal_one x.0 y.0 p.0 q.0 (ap (nth 0) ws)) in let e1 : x.1 ≡ y.1 = (guid_one x.1 y.1 p.1 q.1 (ap (nth 1) ws)) in let e2 : x.2 ≡ y.2 = (licence_text_one x.2 y.2 (ap (nth 2) ws)) in rw (e0, e1, e2) refl
one_of OfNotifyCallback x y p q ws = let e0 : x.0 ≡ y.0 = (decimal_one x.0 y.0 p.0 q.0 (ap (nth 0) ws)) in let e1 : x.1 ≡ y.1 = (guid_one x.1 y.1 p.1 q.1 (ap (nth 1) ws)) in let e2 : x.2 ≡ y.2 = (guid_one x.2 y.2 p.2 q.2 (ap (nth 2) ws)) in rw (e0, e1, e2) refl
one_of OfNotifyDispatch x y p q ws = let e0 : x.0 ≡ y.0 = (decimal_one x.0 y.0 p.0 q.0 (ap (nth 0) ws)) in let e1 : x.1 ≡ y.1 = (guid_one x.1 y.1 p.1 q.1 (ap (nth 1) ws)) in let e2 : x.2 ≡ y.2 = (guid_one x.2 y.2 p.2 q.2 (ap (nth 2) ws)) in rw (e0, e1, e2) refl
one_of OfNotifyProtocol x y p q ws = let e0 : x.0 ≡ y.0 = (decimal_one x.0 y.0 p.0 q.0 (ap (nth 0) ws)) in let e1 : x.1 ≡ y.1 = (guid_one x.1 y.1 p.1 q.1 (ap (nth 1) ws)) in let e2 : x.2 ≡ y.2 = (guid_one x.2 y.2 p.2 q.2 (ap (nth 2) ws)) in rw (e0, e1, e2) refl
one_of OfEnd x y p q ws = ap L.End (word_text_one x y (ap (nth 0) ws))
one_of OfPeiStop x y p q ws = refl
one_of OfDxeStop x y p q ws = refl
one_of OfWaiting x y p q ws = let e0 : x.0 ≡ y.0 = (decimal_one x.0 y.0 p.0 q.0 (ap (nth 0) ws)) in let e1 : x.1 ≡ y.1 = (guid_one x.1 y.1 p.1 q.1 (ap (nth 1) ws)) in let e2 : x.2 ≡ y.2 = (reason_text_one x.2 y.2 (ap (nth 2) ws)) in rw (e0, e1, e2) refl
one_of OfHandoff x y p q ws = ap L.Handoff (hexadecimal_one x y p q (ap (nth 0) ws))
one_of OfResult x y p q ws = ap L.Result (end_text_one x y (ap (nth 0) ws))
one_of OfMigrate x y p q ws = let e0 : x.0 ≡ y.0 = (hexadecimal_one x.0 y.0 p.0 q.0 (ap (nth 0) ws)) in let e1 : x.1 ≡ y.1 = (hexadecimal_one x.1 y.1 p.1 q.1 (ap (nth 1) ws)) in rw (e0, e1) refl
one_of OfCoreInstall x y p q ws = ap L.CoreInstall (word_text_one x y (ap (nth 0) ws))
one_of OfPpis x y p q ws = ap L.Ppis (decimal_one x y p q (ap (nth 0) ws))
one_of OfCallbacks x y p q ws = ap L.Callbacks (decimal_one x y p q (ap (nth 0) ws))
one_of OfDispatches x y p q ws = ap L.Dispatches (decimal_one x y p q (ap (nth 0) ws))
one_of OfPendings x y p q ws = ap L.Pendings (decimal_one x y p q (ap (nth 0) ws))
one_of OfHobs x y p q ws = ap L.Hobs (decimal_one x y p q (ap (nth 0) ws))
one_of OfHandles x y p q ws = ap L.Handles (decimal_one x y p q (ap (nth 0) ws))
one_of OfPpi x y p q ws = let e0 : x.0 ≡ y.0 = (by_one x.0 y.0 p.0 q.0 (ap (nth 0) ws)) in let e1 : x.1 ≡ y.1 = (guid_one x.1 y.1 p.1 q.1 (ap (nth 1) ws)) in let e2 : x.2 ≡ y.2 = (hexadecimal_one x.2 y.2 p.2 q.2 (ap (nth 2) ws)) in rw (e0, e1, e2) refl
one_of OfCallback x y p q ws = let e0 : x.0 ≡ y.0 = (guid_one x.0 y.0 p.0 q.0 (ap (nth 0) ws)) in let e1 : x.1 ≡ y.1 = (decimal_one x.1 y.1 p.1 q.1 (ap (nth 1) ws)) in let e2 : x.2 ≡ y.2 = (decimal_one x.2 y.2 p.2 q.2 (ap (nth 2) ws)) in rw (e0, e1, e2) refl
one_of OfDispatch x y p q ws = let e0 : x.0 ≡ y.0 = (guid_one x.0 y.0 p.0 q.0 (ap (nth 0) ws)) in let e1 : x.1 ≡ y.1 = (decimal_one x.1 y.1 p.1 q.1 (ap (nth 1) ws)) in let e2 : x.2 ≡ y.2 = (decimal_one x.2 y.2 p.2 q.2 (ap (nth 2) ws)) in rw (e0, e1, e2) refl
one_of OfPending x y p q ws = let e0 : x.0 ≡ y.0 = (guid_one x.0 y.0 p.0 q.0 (ap (nth 0) ws)) in let e1 : x.1 ≡ y.1 = (decimal_one x.1 y.1 p.1 q.1 (ap (nth 1) ws)) in let e2 : x.2 ≡ y.2 = (decimal_one x.2 y.2 p.2 q.2 (ap (nth 2) ws)) in rw (e0, e1, e2) refl
one_of OfHandle x y p q ws = let e0 : x.0 ≡ y.0 = (decimal_one x.0 y.0 p.0 q.0 (ap (nth 0) ws)) in let e1 : x.1 ≡ y.1 = (guid_one x.1 y.1 p.1 q.1 (ap (nth 1) ws)) in let e2 : x.2 ≡ y.2 = (hexadecimal_one x.2 y.2 p.2 q.2 (ap (nth 2) ws)) in rw (e0, e1, e2) refl
one_of OfVolume x y p q ws = let e0 : x.0 ≡ y.0 = (decimal_one x.0 y.0 p.0 q.0 (ap (nth 0) ws)) in let e1 : x.1 ≡ y.1 = (hexadecimal_one x.1 y.1 p.1 q.1 (ap (nth 1) ws)) in let e2 : x.2 ≡ y.2 = (wide_one x.2 y.2 p.2 q.2 (ap (nth 2) ws)) in let e3 : x.3 ≡ y.3 = (name_one x.3 y.3 p.3 q.3 (ap (nth 3) ws)) in rw (e0, e1, e2, e3) refl
one_of OfModule x y p q ws = let e0 : x.0 ≡ y.0 = (decimal_one x.0 y.0 p.0 q.0 (ap (nth 0) ws)) in let e1 : x.1 ≡ y.1 = (decimal_one x.1 y.1 p.1 q.1 (ap (nth 1) ws)) in let e2 : x.2 ≡ y.2 = (guid_one x.2 y.2 p.2 q.2 (ap (nth 2) ws)) in let e3 : x.3 ≡ y.3 = (kind_one x.3 y.3 p.3 q.3 (ap (nth 3) ws)) in let e4 : x.4 ≡ y.4 = (rank_one x.4 y.4 p.4 q.4 (ap (nth 4) ws)) in let e5 : x.5 ≡ y.5 = (rank_one x.5 y.5 p.5 q.5 (ap (nth 5) ws)) in let e6 : x.6 ≡ y.6 = (expression_one x.6 y.6 p.6 q.6 (ap (nth 6) ws)) in let e7 : x.7 ≡ y.7 = (expression_one x.7 y.7 p.7 q.7 (ap (nth 7) ws)) in rw (e0, e1, e2, e3, e4, e5, e6, e7) refl
one_of OfRefusedUsage x y p q ws = refl
one_of OfRefusedPlan x y p q ws = let e0 : x.0 ≡ y.0 = (decimal_one x.0 y.0 p q (ap (nth 0) ws)) in let e1 : x.1 ≡ y.1 = (plan_cause_text_one x.1 y.1 (ap (nth 1) ws)) in rw (e0, e1) refl
one_of OfRefusedImage x y p q ws = let e0 : x.0 ≡ y.0 = (decimal_one x.0 y.0 p.0 q.0 (ap (nth 0) ws)) in let e1 : x.1 ≡ y.1 = (wide_one x.1 y.1 p.1 q.1 (ap (nth 1) ws)) in let e2 : x.2 ≡ y.2 = (image_cause_text_one x.2 y.2 (ap (nth 2) ws)) in rw (e0, e1, e2) refl
one_of OfCall x y p q ws = call_one x.0 y.0 x.1 y.1 x.2 y.2 p q ws
one_of OfLog x y p q ws = let e : x.items ≡ y.items = ap (nth 0) ws in ap (λ items. L.Log (record { items = items })) e
one_of OfHob x y p q ws =
    let e0 : x.0 ≡ y.0 = wide_one x.0 y.0 (omega (arith, p.0)) (omega (arith, q.0)) (ap (nth 0) ws) in let e1 : x.1 ≡ y.1 = bytes_one x.1 y.1 p.1 q.1 (ap (nth 1) ws) in rw (e0, e1) refl
one_of OfRefusedFile x y p q ws = ap L.RefusedFile (ap (nth 0) ws)
one_of OfRefusedLong x y p q ws = ap L.RefusedLong (ap (nth 0) ws)

of_form : (line : Line) (of : Form) → form line ≡ of → (x : Parts of) × (line ≡ made of x)
of_form line of is = subst (λ f. (x : Parts f) × (line ≡ made f x)) is (parts line, sym (made_back line))

pub line_one : (a b : Line) → IsReadable a → IsReadable b → keyword a ++ flat_map spaced (words a) ≡ keyword b ++ flat_map spaced (words b) → a ≡ b
line_one a b fits fit is =
    let x = of_form a (form a) refl in
    let y = of_form b (form a) (sym (form_one a b is)) in
    let first : IsReadable (made (form a) x.0) = subst IsReadable x.1 fits in
    let second : IsReadable (made (form a) y.0) = subst IsReadable y.1 fit in
    let text : Line → List ℕ = λ line. keyword line ++ flat_map spaced (words line) in
    x.1 ∙ one_of (form a) x.0 y.0 first second (same_words (form a) x.0 y.0 first second (sym (ap text x.1) ∙ is ∙ ap text y.1)) ∙ sym y.1
